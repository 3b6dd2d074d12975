-- The words of a part's line, and what a buffer gets of it.
-- Assumes nothing.
use mathlib.Core.Path.{◌≡◌, refl, sym, ap, subst, ◌∙◌}
use mathlib.Core.Bool.{true, false}
use mathlib.Core.List.{List, [], ◌∷◌, ◌++◌, append_assoc}
use Prim.Native.Nat.{ℕ, zero, suc, ◌+◌, ◌-◌, ◌*◌, ◌≤◌, ◌<◌}
use native.Mathlib.Omega.{arith}
use lib.ListN.{length, take, drop, length-append, length-drop, drop_of_length-le}
use lib.Seq.{sets, length-sets, take_all, length-take-le}
use Rattle.number.specs.Limits.{file_limit}
use Rattle.number.proofs.Choice.{both, yes_le, not_le, from_yes_lt, from_not_lt, is_eq, no_eq}
use Rattle.number.specs.Choice.{◌<?◌, ◌=?◌}
use Rattle.reading.specs.Got.{Got, got, bad}
use Rattle.decimal.specs.Digits.{digits_of}
use Rattle.decimal.proofs.Laws.{length_u64}
use Rattle.text.specs.Line.{space}
use Rattle.window.specs.Window.{Passed}
use Rattle.window.specs.Shown.{bytes_shown}
use Rattle.window.proofs.WindowLaws.{Passed-none, Passed-then, shown_long, window_whole}
use Rattle.rdb_text.specs.declared.Text.{Text}
use Rattle.rdb_interface.specs.declared.SetCount.{SetCount}
use Rattle.rdb_file.specs.Visit.{Sound}
use Rattle.rdb_file.specs.File.{read_file, verdict_of}
use Rattle.rdb.proofs.AnswerLaws.{Checked-file}
use Rattle.rdb_parts.specs.declared.PartAnswer.{PartAnswer}
use Rattle.rdb_parts.specs.declared.PartAnswer.TheVariants as answer
use Rattle.rdb_parts.specs.Parts.{said_of}
use Rattle.rdb_told.specs.Told.{bytes_at, bytes_word, text_words, Small}
use Rattle.rdb_told.specs.Fills.{buffer_room, bytes_from, Fills, least}

-- ---- the bytes of a text in the file

pub least_high : (a b : ℕ) → least a b ≤ b
unfolding least
least_high a b = both (λ (n : ℕ). n ≤ b) (a <? b) _ _ (λ t. omega (arith, from_yes_lt a b t)) (λ _. omega arith)

-- what is clipped to n bytes lies in them
pub clip_fits : (at len n a k : ℕ) → a ≡ least at n → k ≡ least len (n - a) → a + k ≤ n
clip_fits at len n a k e f =
    let p : a ≤ n = rw e (least_high at n) in
    let q : k ≤ n - a = rw f (least_high len (n - a)) in
    omega arith

drop-least : (k : ℕ) (s : List ℕ) → drop (least k (length s)) s ≡ drop k s
unfolding least
drop-least k s = both (λ (n : ℕ). drop n s ≡ drop k s) (k <? length s) _ _ (λ _. refl) (λ t. drop_of_length-le s {i = length s} (omega arith) ∙ sym (drop_of_length-le s {i = k} (from_not_lt k (length s) t)))

take-least : (k : ℕ) (s : List ℕ) → take (least k (length s)) s ≡ take k s
unfolding least
take-least k s = both (λ (n : ℕ). take n s ≡ take k s) (k <? length s) _ _ (λ _. refl) (λ t. take_all (length s) s (omega arith) ∙ sym (take_all k s (from_not_lt k (length s) t)))

-- no part of a file is longer than it
pub lent_few : (n a : ℕ) (s : List ℕ) → length s ≤ file_limit → length (take n (drop a s)) ≤ file_limit
lent_few n a s h = omega (arith, go n (drop a s), length-drop a s)
  where
    go : (n : ℕ) (l : List ℕ) → length (take n l) ≤ length l
    go zero l = omega arith
    go (suc n) [] = omega arith
    go (suc n) (b ∷ l) = omega (arith, go n l)

-- what lies in the file of a text that leads past it
pub clipped : (s : List ℕ) (at len a n : ℕ) → a ≡ least at (length s) → n ≡ least len (length s - a) → take (a + n - a) (drop a s) ≡ take len (drop at s)
clipped s at len a n e f =
    let d : drop a s ≡ drop at s = ap (λ (k : ℕ). drop k s) e ∙ drop-least at s in
    let l : length (drop at s) ≡ length s - a = ap (λ (x : List ℕ). length x) (sym d) ∙ length-drop a s in
    let z : a + n - a ≡ n = omega arith in
    let k : a + n - a ≡ least len (length (drop at s)) = z ∙ f ∙ ap (λ (i : ℕ). least len i) (sym l) in
    ap (λ (i : ℕ). take i (drop a s)) k ∙ ap (λ (x : List ℕ). take (least len (length (drop at s))) x) d ∙ take-least len (drop at s)

-- ---- words one after another

pub Passed-as : {from p r : ℕ} {v w before after : List ℕ} → v ≡ w → Passed from p v before r after → Passed from p w before r after
Passed-as {from} {p} {r} {v} {w} {before} {after} e h = subst (λ (x : List ℕ). Passed from p x before r after) e h

module _ (w : List ℕ) {from p : ℕ} {before : List ℕ} where
  pub word_none : length w ≡ 0 → Passed from p (bytes_word w) before p before
  unfolding bytes_word
  word_none e = Passed-as (is_eq (length w) 0 [] (space ++ bytes_shown w) e refl) Passed-none

  pub word_some : {q r : ℕ} {mid after : List ℕ} → (length w ≡ 0 → ⊥) → Passed from p space before q mid → Passed from q (bytes_shown w) mid r after → Passed from p (bytes_word w) before r after
  unfolding bytes_word
  word_some n g h = Passed-as (no_eq (length w) 0 [] (space ++ bytes_shown w) n refl) (Passed-then g h)

word_long : (w : List ℕ) → length (bytes_word w) ≤ 1 + 4 * length w
unfolding bytes_word
word_long w = both (λ (l : List ℕ). length l ≤ 1 + 4 * length w) (length w =? 0) _ _ (λ _. omega arith) (λ _. omega (arith, shown_long w))

-- how far that goes
pub word_far : (w : List ℕ) {from p r : ℕ} {before after : List ℕ} → length w ≤ file_limit → Passed from p (bytes_word w) before r after → r ≤ p + 4194305
word_far w h g = omega (arith, g.next, word_long w)

-- how far a label and a number go
pub label_long : (label : List ℕ) (n : ℕ) {from p r : ℕ} {before after : List ℕ} → length label ≤ 20 → n < 18446744073709551616 → Passed from p (label ++ digits_of n) before r after → r ≤ p + 40
label_long label n h k w = omega (arith, w.next, length-append label (digits_of n), length_u64 n k)

module _ (label s : List ℕ) (t : Text) {from p : ℕ} {before : List ℕ} where
  -- a text after its label, w its bytes
  pub text_Passed : (w : List ℕ) {q r e : ℕ} {mid between after : List ℕ} → w ≡ take t.len (drop t.at s) → Passed from p (label ++ digits_of t.at) before q mid → Passed from q (space ++ digits_of t.len) mid r between → Passed from r (bytes_word w) between e after → Passed from p (label ++ text_words s t) before e after
  unfolding text_words bytes_at
  text_Passed w e f g h =
      let k : ((label ++ digits_of t.at) ++ (space ++ digits_of t.len)) ++ bytes_word w ≡ label ++ ((digits_of t.at ++ (space ++ digits_of t.len)) ++ bytes_word w) = append_assoc (label ++ digits_of t.at) (space ++ digits_of t.len) (bytes_word w) ∙ append_assoc label (digits_of t.at) ((space ++ digits_of t.len) ++ bytes_word w) ∙ ap (λ (x : List ℕ). label ++ x) (sym (append_assoc (digits_of t.at) (space ++ digits_of t.len) (bytes_word w))) in
      rw (← e) (Passed-as k (Passed-then (Passed-then f g) h))

-- ---- what a buffer gets

module _ (text before : List ℕ) (place end : ℕ) {after : List ℕ} (room : length before ≡ buffer_room) (w : Passed place 0 text before end after) where
  kept : after ≡ sets before 0 (bytes_from place text)
  kept = w.shown ∙ window_whole place text before ∙ ap (λ (n : ℕ). sets before 0 (take n (drop place text))) room

  wide : length after ≡ buffer_room
  wide = ap (λ (l : List ℕ). length l) kept ∙ length-sets before 0 (bytes_from place text) ∙ room

  left : length (drop place text) ≡ end - place
  left = length-drop place text ∙ (omega (arith, w.next))

  few : end ≤ place + buffer_room → length (bytes_from place text) ≡ end - place
  few h = ap (λ (l : List ℕ). length l) (take_all buffer_room (drop place text) (omega (arith, left))) ∙ left

  pub Fills-past : end ≤ place → Fills text place before (record { length = 0; place = place; ends = true }) after
  Fills-past h = record { long = omega (arith, few (omega arith)); stored = kept; next = omega arith; last = sym (yes_le (length text) (place + buffer_room) (omega (arith, w.next))); inside = omega arith }

  pub Fills-last : place < end → end - place ≤ buffer_room → Fills text place before (record { length = end - place; place = end; ends = true }) after
  Fills-last g h = record { long = sym (few (omega arith)); stored = kept; next = omega arith; last = sym (yes_le (length text) (place + buffer_room) (omega (arith, w.next))); inside = omega (arith, wide) }

  pub Fills-more : buffer_room < end - place → Fills text place before (record { length = buffer_room; place = place + buffer_room; ends = false }) after
  Fills-more h = record { long = sym (length-take-le buffer_room (drop place text) (omega (arith, left))); stored = kept; next = refl; last = sym (not_le (length text) (place + buffer_room) (omega (arith, w.next))); inside = omega (arith, wide) }

-- ---- what is told of a file

Small-all : (s : List ℕ) → length s ≤ file_limit → (a : PartAnswer) → Small s a
Small-all s h (answer.Text t) = h
Small-all s h (answer.Entry x) = h
Small-all s h (answer.Member x) = h
Small-all s h (answer.Typed x) = h
Small-all s h (answer.Method x) = h
Small-all s h answer.None = tt
Small-all s h (answer.Refused why) = tt

-- a part was found in a file that was accepted, so that it is not too long
pub Small-said : (m : SetCount) (f : ℕ → PartAnswer) (s path : List ℕ) → Small s (said_of f (read_file m s) s path)
unfolding said_of verdict_of
Small-said m f s path = go (read_file m s) refl
  where
    go : (g : Got Sound) → read_file m s ≡ g → Small s (said_of f g s path)
    go (got x v) e = Small-all s (Checked-file m s {r = verdict_of (read_file m s)} refl {v = v} (ap (λ (z : Got Sound). verdict_of z) e)).small (said_of f (got x v) s path)
    go (bad n q) e = tt
