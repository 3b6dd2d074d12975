-- The lines of a text by what stands before and behind its first newline.
-- Assumes nothing.
use mathlib.Core.Path.{◌≡◌, refl, sym, ap, ◌∙◌}
use mathlib.Core.Bool.{Bool, true, false}
use mathlib.Core.List.{List, [], ◌∷◌, ◌++◌, append-nil}
use Prim.Native.Nat.{ℕ, suc, ◌≤◌, ◌<◌}
use native.Mathlib.Omega.{arith}
use lib.ListN.{length, length-append}
use Rattle.number.specs.Choice.{when◌then◌else◌, ◌=?◌}
use Rattle.number.proofs.Choice.{is_true, is_false, yes_eq, not_eq, yes_le, not_le}
use Rattle.feed.specs.Lines.{before_first, lines_of, line, too_long, longest_line, item_of, items_of, behind_newline}
use Rattle.feed.specs.Input.{OneLine}

-- what stands before the first newline
unfoldable head_line : List ℕ → List ℕ
head_line [] = []
head_line (b ∷ text) = when b =? 10 then [] else b ∷ head_line text

module _ (b : ℕ) where
  first_one : (t : Bool) → (when t then [] ∷ lines_of [] else before_first b (lines_of [])) ≡ (when t then [] else b ∷ head_line []) ∷ lines_of (when t then [] else behind_newline [])
  unfolding lines_of head_line behind_newline when◌then◌else◌
  first_one true = refl
  first_one false = refl

  first_more : (t : Bool) (text : List ℕ) → lines_of text ≡ head_line text ∷ lines_of (behind_newline text)
      → (when t then [] ∷ lines_of text else before_first b (lines_of text)) ≡ (when t then [] else b ∷ head_line text) ∷ lines_of (when t then text else behind_newline text)
  unfolding when◌then◌else◌
  first_more true text e = refl
  first_more false text e = rw e

lines_first : (b : ℕ) (text : List ℕ) → lines_of (b ∷ text) ≡ head_line (b ∷ text) ∷ lines_of (behind_newline (b ∷ text))
unfolding lines_of head_line behind_newline
lines_first b [] = first_one b (b =? 10)
lines_first b (c ∷ text) = first_more b (b =? 10) (c ∷ text) (lines_first c text)

-- ---- a part without newlines

tail_one : (b : ℕ) (l : List ℕ) → OneLine (b ∷ l) → OneLine l
tail_one b l o = record { each = λ k a h. o.each (suc k) (omega arith) (omega arith) }

head_append : (l text : List ℕ) → OneLine l → head_line (l ++ text) ≡ l ++ head_line text
unfolding head_line
head_append [] text o = refl
head_append (b ∷ l) text o = sym (is_false _ _ _ (not_eq b 10 (o.each 0 (omega arith) (omega arith))) (ap (λ (t : List ℕ). b ∷ t) (sym (head_append l text (tail_one b l o)))))

-- a newline behind it is the first one
pub behind_append : (l text : List ℕ) → OneLine l → behind_newline (l ++ text) ≡ behind_newline text
unfolding behind_newline
behind_append [] text o = refl
behind_append (b ∷ l) text o = sym (is_false _ _ _ (not_eq b 10 (o.each 0 (omega arith) (omega arith))) (sym (behind_append l text (tail_one b l o))))

pub behind_newline_lem : (text : List ℕ) → behind_newline (10 ∷ text) ≡ text
unfolding behind_newline
behind_newline_lem text = sym (is_true _ _ _ (yes_eq 10 10 refl) refl)

head_newline : (text : List ℕ) → head_line (10 ∷ text) ≡ []
unfolding head_line
head_newline text = sym (is_true _ _ _ (yes_eq 10 10 refl) refl)

pub behind_line : (l text : List ℕ) → OneLine l → behind_newline (l ++ (10 ∷ text)) ≡ text
behind_line l text o = behind_append l (10 ∷ text) o ∙ behind_newline_lem text

pub behind_none : (l : List ℕ) → OneLine l → behind_newline l ≡ []
unfolding behind_newline
behind_none [] o = refl
behind_none (b ∷ l) o = sym (is_false _ _ _ (not_eq b 10 (o.each 0 (omega arith) (omega arith))) (sym (behind_none l (tail_one b l o))))

head_none : (l : List ℕ) → OneLine l → head_line l ≡ l
unfolding head_line
head_none [] o = refl
head_none (b ∷ l) o = sym (is_false _ _ _ (not_eq b 10 (o.each 0 (omega arith) (omega arith))) (ap (λ (t : List ℕ). b ∷ t) (sym (head_none l (tail_one b l o)))))

-- ---- items

pub items_none : items_of [] ≡ []
unfolding items_of lines_of
items_none = refl

items_first : (b : ℕ) (text : List ℕ) → items_of (b ∷ text) ≡ item_of (head_line (b ∷ text)) ∷ items_of (behind_newline (b ∷ text))
unfolding items_of
items_first b text = rw (lines_first b text)

item_line : (l : List ℕ) → length l ≤ longest_line → item_of l ≡ line l
unfolding item_of
item_line l h = sym (is_true _ _ _ (yes_le _ _ h) refl)

item_long : (l : List ℕ) → longest_line < length l → item_of l ≡ too_long
unfolding item_of
item_long l h = sym (is_false _ _ _ (not_le _ _ h) refl)

-- a line that a newline ends
pub items_line : (l text : List ℕ) → OneLine l → length l ≤ longest_line → items_of (l ++ (10 ∷ text)) ≡ line l ∷ items_of text
items_line [] text o h = items_first 10 text ∙ rw (head_newline text, behind_newline_lem text, item_line [] h)
items_line (b ∷ l) text o h = items_first b (l ++ (10 ∷ text)) ∙ rw (head_append (b ∷ l) (10 ∷ text) o, head_newline text, behind_line (b ∷ l) text o, append-nil l, item_line (b ∷ l) h)

-- the last line, which none ends
pub items_last : (l : List ℕ) → OneLine l → 0 < length l → length l ≤ longest_line → items_of l ≡ line l ∷ []
items_last [] o n h = absurd (omega arith)
items_last (b ∷ l) o n h = items_first b l ∙ rw (head_none (b ∷ l) o, behind_none (b ∷ l) o, item_line (b ∷ l) h, items_none)

-- a line that is too long, wherever it ends
pub items_long : (l text : List ℕ) → OneLine l → longest_line < length l → items_of (l ++ text) ≡ too_long ∷ items_of (behind_newline text)
items_long [] text o h = absurd (omega arith)
items_long (b ∷ l) text o h =
    items_first b (l ++ text) ∙ rw (head_append (b ∷ l) text o, behind_append (b ∷ l) text o, item_long (b ∷ (l ++ head_line text)) (omega (arith, length-append l (head_line text))))
