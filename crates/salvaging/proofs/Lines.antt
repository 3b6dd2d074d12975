-- Lines one after another, and the text within one line.
-- Assumes nothing.
use mathlib.Core.Path.{◌≡◌, refl, sym, ap, ◌∙◌}
use mathlib.Core.Bool.{Bool, true, false}
use mathlib.Core.List.{List, [], ◌∷◌, ◌++◌, map, append_assoc, append-nil}
use Prim.Native.Nat.{ℕ, zero, suc, ◌+◌, ◌*◌, ◌≤◌, ◌<◌}
use native.Mathlib.Omega.{arith}
use lib.ListN.{length, length-append, get_or, take, drop}
use lib.Seq.{sets, get_or-take, take-suc, take_all}
use Rattle.decimal.proofs.Stores.{front, chain}
use Rattle.meaning.proofs.Facts.Sets.{get_or-map, length-map}
use Rattle.text.specs.Writing.{Wrote}
use Rattle.text.proofs.WritingLaws.{Wrote-then, Wrote-as}
use Rattle.text.specs.Line.{newline}
use Rattle.listed.specs.Text.{shown, closing}
use Rattle.listed.proofs.RestLaws.{length-shown, shown-sets}
use Rattle.mend.specs.Left.{Report, report, index_of, number_of, place_of}
use Rattle.salvaging.specs.Text.{numbers_line, changed_line, report_lines, in_one_line, salvaged_text}
use Rattle.salvaging.specs.Lists.{list_lines, list_text}

-- ---- the lists hold the reports

reports_both : (xs ys : List Report) → report_lines (xs ++ ys) ≡ report_lines xs ++ report_lines ys
unfolding report_lines
reports_both [] ys = refl
reports_both (x ∷ xs) ys =
    let line : List ℕ = numbers_line (index_of x) (number_of x) (place_of x) in
    ap (λ (z : List ℕ). line ++ z) (reports_both xs ys) ∙ sym (append_assoc line (report_lines xs) (report_lines ys))

none_there : Report
none_there = report 0 0 0

held_at : (part : Report → ℕ) (l : List ℕ) (rs : List Report) (k : ℕ) → length rs ≤ length l → k < length rs → get_or (sets l 0 (map part rs)) k 0 ≡ part (get_or rs k none_there)
held_at part l rs k h i =
    let n : length (map part rs) ≡ length rs = length-map part rs in
    sym (get_or-take (length (map part rs)) (sets l 0 (map part rs)) k 0 (omega arith))
    ∙ ap (λ (x : List ℕ). get_or x k 0) (front l (map part rs) (omega arith))
    ∙ get_or-map part 0 none_there rs k i

module _ (rs : List Report) (a b c is ns qs : List ℕ) (fa : length rs ≤ length a) (fb : length rs ≤ length b) (fc : length rs ≤ length c)
    (ha : is ≡ sets a 0 (map index_of rs)) (hb : ns ≡ sets b 0 (map number_of rs)) (hc : qs ≡ sets c 0 (map place_of rs)) where
  line_at : (k : ℕ) → k < length rs → numbers_line (get_or is k 0) (get_or ns k 0) (get_or qs k 0) ≡ report_lines (get_or rs k none_there ∷ [])
  unfolding report_lines
  line_at k i =
      let r : Report = get_or rs k none_there in
      let x : get_or is k 0 ≡ index_of r = ap (λ (l : List ℕ). get_or l k 0) ha ∙ held_at index_of a rs k fa i in
      let y : get_or ns k 0 ≡ number_of r = ap (λ (l : List ℕ). get_or l k 0) hb ∙ held_at number_of b rs k fb i in
      let z : get_or qs k 0 ≡ place_of r = ap (λ (l : List ℕ). get_or l k 0) hc ∙ held_at place_of c rs k fc i in
      (λ j. numbers_line (x j) (y j) (z j)) ∙ sym (append-nil _)

  lines_to : (k : ℕ) → k ≤ length rs → list_lines is ns qs k ≡ report_lines (take k rs)
  unfolding list_lines report_lines
  lines_to zero h = refl
  lines_to (suc k) h =
      (λ j. lines_to k (omega arith) j ++ line_at k h j)
      ∙ sym (reports_both (take k rs) (get_or rs k none_there ∷ []))
      ∙ ap report_lines (sym (take-suc rs k none_there h))

  pub lines_are : list_lines is ns qs (length rs) ≡ report_lines rs
  lines_are = lines_to (length rs) (omega arith) ∙ ap report_lines (take_all (length rs) rs (omega arith))

  pub text_is : (in_batch : Bool) (n k : ℕ) → k ≡ length rs → list_text in_batch n is ns qs k ≡ salvaged_text in_batch n rs
  unfolding list_text salvaged_text
  text_is in_batch n k e =
      ap (λ (m : ℕ). shown (in_one_line in_batch m) (changed_line n m ++ list_lines is ns qs m) ++ closing (in_one_line in_batch m)) e
      ∙ ap (λ (x : List ℕ). shown (in_one_line in_batch (length rs)) (changed_line n (length rs) ++ x) ++ closing (in_one_line in_batch (length rs))) lines_are

-- ---- a turn of the loop

list_more : (is ns qs : List ℕ) (k : ℕ) → list_lines is ns qs (k + 1) ≡ list_lines is ns qs k ++ numbers_line (get_or is k 0) (get_or ns k 0) (get_or qs k 0)
unfolding list_lines
list_more is ns qs k = let q : k + 1 ≡ suc k = omega arith in rw q refl

pub lines_none : (is ns qs l : List ℕ) (at : ℕ) → Wrote l at (list_lines is ns qs 0) at l
unfolding list_lines
lines_none is ns qs l at = record { next = omega arith; stored = refl }

pub lines_more : (is ns qs l l₁ l₂ : List ℕ) (at k e r : ℕ) → Wrote l at (list_lines is ns qs k) e l₁ → Wrote l₁ e (numbers_line (get_or is k 0) (get_or ns k 0) (get_or qs k 0)) r l₂ → Wrote l at (list_lines is ns qs (k + 1)) r l₂
lines_more is ns qs l l₁ l₂ at k e r a b =
    Wrote-as (sym (list_more is ns qs k)) (Wrote-then l (list_lines is ns qs k) (numbers_line (get_or is k 0) (get_or ns k 0) (get_or qs k 0)) at a b)

pub lines_done : (is ns qs l l₁ : List ℕ) (at k n e : ℕ) → n ≤ k → (k ≤ n) × (e ≤ at + 63 * k) × Wrote l at (list_lines is ns qs k) e l₁ → Wrote l at (list_lines is ns qs n) e l₁ × (e ≤ at + 63 * n)
lines_done is ns qs l l₁ at k n e h i =
    let q : k ≡ n = omega (arith, i.0) in
    (Wrote-as (ap (list_lines is ns qs) q) i.2, omega (arith, i.1))

-- ---- the end

pub closing_short : (b : Bool) → length (closing b) ≤ 1
unfolding closing
closing_short true = omega arith
closing_short false = omega arith

-- the first bytes, within one line or not, and what ends them
pub closed : (b : Bool) (bytes l l₁ l₂ : List ℕ) (n r : ℕ) → n ≤ length l → Wrote l 0 bytes n l₁ → r ≡ n + length (closing b) → l₂ ≡ sets (shown b (take n l₁) ++ drop n l₁) n (closing b)
    → Wrote l 0 (shown b bytes ++ closing b) r l₂
closed b bytes l l₁ l₂ n r h w e f =
    let k : length (shown b bytes) ≡ length bytes = length-shown b bytes in
    let m : n ≡ length bytes = omega (arith, w.next) in
    record {
      next = rw length-append (omega arith);
      stored = chain l (shown b bytes) (closing b) 0 n (shown-sets b l bytes l₁ n m h w.stored) (omega arith) f;
    }

-- the code's two ways to end it
pub closed_one : (b : Bool) (l l₁ l₂ : List ℕ) (n r : ℕ) → b ≡ true → l₁ ≡ shown b (take n l) ++ drop n l → (r ≡ n + length newline) × (l₂ ≡ sets l₁ n newline)
    → (r ≡ n + length (closing b)) × (l₂ ≡ sets (shown b (take n l) ++ drop n l) n (closing b))
unfolding closing
closed_one b l l₁ l₂ n r t e h = (rw t h.0, rw (← e, t) h.1)

pub closed_plain : (b : Bool) (l l₁ : List ℕ) (n : ℕ) → b ≡ false → l₁ ≡ shown b (take n l) ++ drop n l → (n ≡ n + length (closing b)) × (l₁ ≡ sets (shown b (take n l) ++ drop n l) n (closing b))
unfolding closing
closed_plain b l l₁ n t e = (rw t (omega arith), rw (← e, t) refl)
