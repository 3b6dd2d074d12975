-- Words, paths and lines that are passed.
-- Assumes nothing.
use mathlib.Core.Path.{◌≡◌, refl, sym, ap, ◌∙◌, subst}
use mathlib.Core.Bool.{Bool, true, false}
use mathlib.Core.List.{List, [], ◌∷◌, ◌++◌, append_assoc}
use Prim.Native.Nat.{ℕ, zero, suc, ◌+◌, ◌≤◌, ◌<◌}
use native.Mathlib.Omega.{arith}
use native.Mathlib.Numerals.{add-one}
use lib.ListN.{length, get_or, set, take, length-append, length-set}
use lib.Seq.{get_or-set_same, get_or-set_other}
use Rattle.number.specs.Choice.{when◌then◌else◌, ◌<?◌, ◌=?◌, ◌≠?◌}
use Rattle.number.specs.Limits.{file_limit}
use Rattle.number.specs.Number.{le}
use Rattle.number.proofs.Choice.{is_eq, no_eq, both, from_yes_eq, from_not_eq}
use Rattle.key.specs.Word.{word_end, word_at}
use Rattle.key.proofs.Ends.{word_from, length_word, word_nil, word_cons}
use Rattle.ascii.specs.Ascii.{ascii}
use Rattle.decimal.specs.Digits.{digits_of}
use Rattle.text.specs.Line.{space, newline}
use Rattle.decimal.proofs.Laws.{length_u64}
use Rattle.decimal.proofs.Stores.{front}
use Rattle.text.specs.Writing.{Wrote}
use Rattle.rdb_map.specs.Map.{entry_bytes, key_at}
use Rattle.rdb_path.specs.Path.{joined}
use Rattle.rdb_list.specs.Listed.{Line, entity_line, constant_line, value_in}
use Rattle.rdb_shown.specs.Texts.{value_text}
use Rattle.window.specs.Window.{Passed}
use Rattle.window.specs.Shown.{is_plain, byte_shown, bytes_shown}
use Rattle.window.proofs.WindowLaws.{Passed-none, Passed-then, length-window, shown_append, shown_long}
use Rattle.rdb_line.specs.Text.{path_text, step_text, path_end, line_text}
use Rattle.rdb_line.specs.Spelt.{word_room, words_at, Spelt, line_of}
use Rattle.rdb_line.specs.declared.Target.TheVariants.{Entity, Constant}

-- ---- a word, byte by byte

module _ (s : List ℕ) (q : ℕ) (h : word_end s q < length s) where
  pub word_over : get_or s q 0 ≡ 0 → bytes_shown (word_at s q) ≡ []
  unfolding bytes_shown
  word_over z = ap bytes_shown (word_nil s q h z)

  pub word_more : (get_or s q 0 ≡ 0 → ⊥) → bytes_shown (word_at s q) ≡ byte_shown (get_or s q 0) ++ bytes_shown (word_at s (q + 1))
  unfolding bytes_shown
  word_more z = ap bytes_shown (word_cons s q h z)

  -- how long it is
  pub word_short : length s ≤ file_limit → length (bytes_shown (word_at s q)) + 1 ≤ word_room
  word_short l = omega (arith, shown_long (word_at s q), length_word s q, word_from s q)

-- ---- one word after another

joined_more : (w : List ℕ) (ws : List (List ℕ)) (x : List ℕ) → joined ((w ∷ ws) ++ (x ∷ [])) ≡ joined (w ∷ ws) ++ (0x2e ∷ x)
unfolding joined
joined_more w [] x = refl
joined_more w (y ∷ ws) x = ap (λ (l : List ℕ). w ++ (0x2e ∷ l)) (joined_more y ws x) ∙ sym (append_assoc w (0x2e ∷ joined (y ∷ ws)) (0x2e ∷ x))

words_long : (s ps : List ℕ) (d : ℕ) → length (words_at s ps d) ≡ d
unfolding words_at
words_long s ps zero = refl
words_long s ps (suc d) = length-append (words_at s ps d) _ ∙ omega (arith, words_long s ps d)

dot_shown : (w : List ℕ) → ascii "." ++ bytes_shown w ≡ bytes_shown (0x2e ∷ w)
unfolding bytes_shown byte_shown is_plain when◌then◌else◌ ◌<?◌ ◌≠?◌
dot_shown w = refl

path_first : (w : List ℕ) → bytes_shown w ≡ path_text (w ∷ [])
unfolding path_text joined
path_first w = refl

path_none : path_text [] ≡ []
unfolding path_text joined bytes_shown
path_none = refl

shown_more : (x : List ℕ) (ws : List (List ℕ)) (w : List ℕ) → path_text ((x ∷ ws) ++ (w ∷ [])) ≡ path_text (x ∷ ws) ++ bytes_shown (0x2e ∷ w)
unfolding path_text
shown_more x ws w = ap bytes_shown (joined_more x ws w) ∙ shown_append (joined (x ∷ ws)) (0x2e ∷ w)

path_more : (ws : List (List ℕ)) (d : ℕ) (w : List ℕ) → length ws ≡ d → path_text ws ++ step_text d w ≡ path_text (ws ++ (w ∷ []))
unfolding step_text
path_more [] d w e = ap (λ (l : List ℕ). l ++ step_text d w) path_none ∙ sym (is_eq d 0 (bytes_shown w) (ascii "." ++ bytes_shown w) (sym e) refl) ∙ path_first w
path_more (x ∷ ws) d w e =
    ap (λ (l : List ℕ). path_text (x ∷ ws) ++ l) (sym (no_eq d 0 (bytes_shown w) (ascii "." ++ bytes_shown w) (λ z. omega arith) refl) ∙ dot_shown w)
    ∙ sym (shown_more x ws w)

-- the path of the first d + 1 entries
pub path_next : (s ps : List ℕ) (d : ℕ) → path_text (words_at s ps d) ++ step_text d (key_at s (get_or ps d 0)) ≡ path_text (words_at s ps (d + 1))
unfolding words_at
path_next s ps d = rw (add-one d) (path_more (words_at s ps d) d (key_at s (get_or ps d 0)) (words_long s ps d))

pub path_start : (s ps : List ℕ) {from p : ℕ} {out : List ℕ} → Passed from p (path_text (words_at s ps 0)) out p out
unfolding words_at
path_start s ps = rw path_none Passed-none

pub Passed-as : {from p r : ℕ} {v w before after : List ℕ} → v ≡ w → Passed from p v before r after → Passed from p w before r after
Passed-as {from} {p} {r} {v} {w} {before} {after} e h = subst (λ (x : List ℕ). Passed from p x before r after) e h

-- what was written at the front of a line
pub Wrote-front : (line vs : List ℕ) {k : ℕ} {after : List ℕ} → Wrote line 0 vs k after → length vs ≤ length line → take k after ≡ vs
Wrote-front line vs {k} w h = let e : k ≡ length vs = omega (arith, w.next) in rw (e, w.stored) (front line vs h)

-- what a step passes
module _ (i : ℕ) (w : List ℕ) {from p r : ℕ} {before after : List ℕ} where
  pub step_first : i ≡ 0 → Passed from p (bytes_shown w) before r after → Passed from p (step_text i w) before r after
  unfolding step_text
  step_first e h = Passed-as (is_eq i 0 (bytes_shown w) (ascii "." ++ bytes_shown w) e refl) h

  pub step_more : (i ≡ 0 → ⊥) → {q : ℕ} {between : List ℕ} → Passed from p (ascii ".") before q between → Passed from q (bytes_shown w) between r after → Passed from p (step_text i w) before r after
  unfolding step_text
  step_more e g h = Passed-as (no_eq i 0 (bytes_shown w) (ascii "." ++ bytes_shown w) e refl) (Passed-then g h)

pub key_word : (s : List ℕ) (p : ℕ) {q : ℕ} → q ≡ le 4 s p → bytes_shown (word_at s q) ≡ bytes_shown (key_at s p)
unfolding key_at
key_word s p e = ap (λ (x : ℕ). bytes_shown (word_at s x)) e

pub key_ended : (s : List ℕ) (p : ℕ) {q : ℕ} → q ≡ le 4 s p → word_end s (le 4 s p) < length s → word_end s q < length s
key_ended s p e h = subst (λ (x : ℕ). word_end s x < length s) (sym e) h

-- ---- a longer path

module _ (s ps : List ℕ) (d p : ℕ) where
  words_same : (i : ℕ) → i ≤ d → words_at s (set ps d p) i ≡ words_at s ps i
  unfolding words_at
  words_same zero h = refl
  words_same (suc i) h = rw (words_same i (omega arith), get_or-set_other ps d i p 0 (λ e. omega arith)) refl

  pub words_longer : d < length ps → words_at s (set ps d p) (d + 1) ≡ words_at s ps d ++ (key_at s p ∷ [])
  unfolding words_at
  words_longer h = rw (add-one d, words_same d (omega arith), get_or-set_same ps d p 0 h) refl

  pub Spelt-longer : Spelt s ps d → d < 18 → p + entry_bytes ≤ length s → word_end s (le 4 s p) < length s → Spelt s (set ps d p) (d + 1)
  Spelt-longer h l r e = record {
    long = length-set ps d p ∙ h.long;
    few = omega arith;
    room = λ i k. at i k (λ (x : ℕ). x + entry_bytes ≤ length s) r (h.room i);
    ended = λ i k. at i k (λ (x : ℕ). word_end s (le 4 s x) < length s) e (h.ended i);
  }
    where
      at : (i : ℕ) → i < d + 1 → (P : ℕ → Type 0) → P p → (i < d → P (get_or ps i 0)) → P (get_or (set ps d p) i 0)
      at i k P x f =
          both (λ (b : Bool). P (get_or (set ps d p) i 0)) (i =? d) true false
          (λ t. (let z = from_yes_eq i d t in rw (z, get_or-set_same ps d p 0 (omega (arith, h.long))) x))
          (λ t. (let z = from_not_eq i d t in rw (get_or-set_other ps d i p 0 z) (f (omega arith))))

-- ---- a line from its parts

pub Passed-kept : {from p r : ℕ} {w before after : List ℕ} → Passed from p w before r after → length after ≡ length before
Passed-kept {from} {p} {r} {w} {before} {after} h = ap (λ (l : List ℕ). length l) h.shown ∙ length-window from p w before

-- a label and a number are short
pub labelled_short : (label : List ℕ) (n : ℕ) {from p r : ℕ} {before after : List ℕ} → n < 18446744073709551616 → Passed from p (label ++ digits_of n) before r after → r ≤ p + (length label + 20)
labelled_short label n l h = omega (arith, h.next, length-append label (digits_of n), length_u64 n l)

module _ {from p q : ℕ} {before between : List ℕ} where
  pub end_Passed : (ws : List (List ℕ)) {r t : ℕ} {b after : List ℕ} → Passed from p space before q between → Passed from q (path_text ws) between r b → Passed from r newline b t after → Passed from p (path_end ws) before t after
  unfolding path_end
  end_Passed ws f g h = Passed-then (Passed-then f g) h

  module _ (s : List ℕ) (ws : List (List ℕ)) (o : ℕ) where
    pub entity-Passed : {r t : ℕ} {b after : List ℕ} → Passed from p (ascii "E " ++ digits_of (get_or s o 0)) before q between → Passed from q (space ++ digits_of o) between r b → Passed from r (path_end ws) b t after → Passed from p (line_text (line_of s ws (Entity o))) before t after
    unfolding line_text line_of
    entity-Passed f g h = Passed-then (Passed-then f g) h

    pub constant-Passed : {t : ℕ} {after : List ℕ} → Passed from p (ascii "C " ++ value_text (value_in s o)) before q between → Passed from q (path_end ws) between t after → Passed from p (line_text (line_of s ws (Constant o))) before t after
    unfolding line_text line_of
    constant-Passed f h = Passed-then f h

-- no line is empty
end_some : (ws : List (List ℕ)) → 1 ≤ length (path_end ws)
unfolding path_end
end_some ws = rw length-append (omega arith)

pub line_some : (x : Line) → 1 ≤ length (line_text x)
unfolding line_text
line_some (entity_line ws k o) = rw length-append (omega (arith, end_some ws))
line_some (constant_line ws v) = rw length-append (omega (arith, end_some ws))
