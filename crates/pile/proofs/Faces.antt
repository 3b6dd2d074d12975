-- What the functions of this crate give for files, from what a check or a link gives.
-- Assumes nothing.
use Rattle.std.specs.Prelude.{Err, Ok, Result, ℕ}
use mathlib.Core.Path.{◌≡◌, refl, sym, ap, ◌∙◌}
use mathlib.Core.List.{List, [], ◌∷◌}
use Prim.Native.Nat.{ℕ, ◌+◌, ◌≤◌, ◌<◌}
use lib.ListN.{length, take}
use lib.Seq.{sets}
use Rattle.number.proofs.Choice.{is_lt, no_lt, is_eq, no_eq}
use Rattle.reading.specs.Got.{Accepted}
use Rattle.reading.specs.declared.Refusal.{Refusal}
use Rattle.reader.specs.Reader.{decode, check_of}
use Rattle.reader.specs.Reader.Laws.{refused_decodes}
use Rattle.reader.specs.Reader.Marked.{P1}
use Rattle.meaning.proofs.Stock.Examples.{marked}
use Rattle.joining.specs.Outcome.{Outcome, refused, written, refusal, in_room, after}
use Rattle.link.specs.declared.Which.TheVariants.{First, Union}
use Rattle.link.specs.declared.LinkRefusal.{LinkRefusal}
use Rattle.link.specs.Outcome.{refusal_of, link_in, linked_as, link_answer, link_buffer}
use Rattle.pile.specs.declared.Pile.{Pile}
use Rattle.pile.specs.declared.Added.{Added}
use Rattle.pile.specs.declared.Added.TheVariants.{Grown, Refused}
use Rattle.pile.specs.Pile.{empty_file, whole_of, whole_in, more_in, more_answer, more_buffer, link_count, grown_as, Turn, turn, answer_in, first_in, second_in}

-- ---- the first file

-- the answer, and the buffer afterwards
abbrev pub Kept : List ℕ → List ℕ → Result ℕ LinkRefusal → List ℕ → Type 0
Kept f out r left = (r ≡ linked_as (whole_in (length out) f)) × (left ≡ after (whole_in (length out) f) out)

pub whole_refused : (f : List ℕ) {x : Refusal} → check_of f ≡ Err x → (out : List ℕ) → Kept f out (Err (record { which = First; why = x })) out
unfolding whole_in whole_of in_room linked_as after refusal_of refusal
whole_refused f e out = rw (refused_decodes f e) (refl, refl)

module _ (f : List ℕ) (m : Accepted (decode f)) (out : List ℕ) where
  short_in : length out < length f → whole_in (length out) f ≡ refused (refusal_of Union 27 (length f))
  unfolding whole_in whole_of in_room
  short_in h = rw m.2 (sym (is_lt _ _ _ _ h refl))

  pub kept_in : length f ≤ length out → whole_in (length out) f ≡ written f
  unfolding whole_in whole_of in_room
  kept_in h = rw m.2 (sym (no_lt _ _ _ _ h refl))

  pub whole_short : length out < length f → Kept f out (Err (record { which = Union; why = record { no = 27; place = length f } })) out
  unfolding linked_as after refusal_of refusal
  whole_short h = rw (short_in h) (refl, refl)

  pub whole_Kept : {n : ℕ} {left : List ℕ} → n ≡ length f → left ≡ sets out 0 f → length f ≤ length out → Kept f out (Ok n) left
  unfolding linked_as after
  whole_Kept e s h = rw (kept_in h) (ap (λ (k : ℕ). Ok k) e, s)

-- ---- one more file

module _ (p : Pile) (held f : List ℕ) where
  pub more_first : (room : ℕ) → p.files ≡ 0 → more_in room p held f ≡ whole_in room f
  unfolding more_in
  more_first room h = sym (is_eq _ _ _ _ h refl)

  pub more_next : (room : ℕ) → (p.files ≡ 0 → ⊥) → more_in room p held f ≡ link_in room (take p.length held) f
  unfolding more_in
  more_next room h = sym (no_eq _ _ _ _ h refl)

  module _ (out : List ℕ) {r : Result ℕ LinkRefusal} {left : List ℕ} where
    pub put_first : p.files ≡ 0 → Kept f out r left → (r ≡ more_answer p held f out) × (left ≡ more_buffer p held f out)
    unfolding more_answer more_buffer
    put_first h k = (k.0 ∙ ap linked_as (sym (more_first (length out) h)), k.1 ∙ ap (λ (o : Outcome LinkRefusal). after o out) (sym (more_first (length out) h)))

    pub put_next : (p.files ≡ 0 → ⊥) → r ≡ link_answer (take p.length held) f out → left ≡ link_buffer (take p.length held) f out → (r ≡ more_answer p held f out) × (left ≡ more_buffer p held f out)
    unfolding more_answer more_buffer link_answer link_buffer
    put_next h a b = (a ∙ ap linked_as (sym (more_next (length out) h)), b ∙ ap (λ (o : Outcome LinkRefusal). after o out) (sym (more_next (length out) h)))

-- ---- the pile after it

module _ (p : Pile) (r : Result ℕ LinkRefusal) where
  pub grown_written : (n : ℕ) → r ≡ Ok n → Grown (record { files = p.files + 1; length = n }) ≡ grown_as p r
  unfolding grown_as
  grown_written n e = rw e refl

  pub grown_refused : (x : LinkRefusal) (s : ℕ) → r ≡ Err x → s ≡ link_count p → Refused (record { why = x; step = s }) ≡ grown_as p r
  unfolding grown_as
  grown_refused x s e h = rw (e, h) refl

-- ---- the parts of a turn

pub turn_parts : {r : Added} {one other : List ℕ} (t : Turn) → turn r one other ≡ t → (r ≡ answer_in t) × (one ≡ first_in t) × (other ≡ second_in t)
unfolding answer_in first_in second_in
turn_parts t e = (ap answer_in e, ap first_in e, ap second_in e)

-- ---- the empty typelib

pub empty_bytes : 0x58 ∷ 0x50 ∷ 0x43 ∷ 0x4f ∷ 0x4d ∷ 0x0a ∷ 0x54 ∷ 0x79 ∷ 0x70 ∷ 0x65 ∷ 0x4c ∷ 0x69 ∷ 0x62 ∷ 0x0d ∷ 0x0a ∷ 0x1a ∷ 0x01 ∷ 0x01 ∷ 0x00 ∷ 0x00 ∷ 0x00 ∷ 0x00 ∷ 0x00 ∷ 0x24 ∷ 0x00 ∷ 0x00 ∷ 0x00 ∷ 0x00 ∷ 0x00 ∷ 0x00 ∷ 0x00 ∷ 0x24 ∷ 0x80 ∷ 0x00 ∷ 0x00 ∷ 0x00 ∷ [] ≡ empty_file
unfolding P1
empty_bytes = sym marked.0
