-- What one more file does to a pile in its two buffers.
-- Assumes nothing.
use Rattle.std.specs.Prelude.{Err, Ok, Result, ℕ}
use mathlib.Core.Path.{◌≡◌, refl, sym, ap, ◌∙◌}
use mathlib.Core.Logic.{◌⊎◌, inl, inr}
use mathlib.Core.List.{List}
use mathlib.Core.Option.{some}
use Prim.Native.Nat.{ℕ, zero, suc, ◌+◌, ◌%◌, ◌≤◌, ◌<◌}
use native.Mathlib.Omega.{arith}
use lib.ListN.{length, take}
use lib.Seq.{length-sets}
use Rattle.number.specs.Limits.{file_limit, pile_limit}
use Rattle.number.proofs.Choice.{is_lt, no_lt, is_le, no_le, is_eq, no_eq}
use Rattle.decimal.proofs.Stores.{front}
use Rattle.reading.specs.Got.{got}
use Rattle.reader.specs.Values.{Typelib, typelib}
use Rattle.reader.specs.Reader.{decode}
use Rattle.reader.specs.Reader.Laws.{accepted_obeys}
use Rattle.joining.specs.Outcome.{Outcome, refused, written, after}
use Rattle.link.specs.declared.LinkRefusal.{LinkRefusal}
use Rattle.link.specs.Outcome.{linked_as, link_answer, link_buffer}
use Rattle.link.specs.Demand.{Buffer, left_in, left_by}
use Rattle.pile.specs.declared.Pile.{Pile}
use Rattle.pile.specs.declared.Added.TheVariants.{Grown, Refused, Full}
use Rattle.pile.specs.Pile.{empty_file, whole_in, more_in, more_answer, more_buffer, grown_as, Turn, turn, added, ended, onward, held_by, left_of}
use Rattle.pile.proofs.Faces.{kept_in, more_first, more_next}

-- a pile of k files, unless there was a refusal, in buffers of 1,048,576 bytes
abbrev pub Stands : ℕ → Turn → Type 0
Stands k (turn (Grown p) one other) = (p.files ≡ k) × Buffer one × Buffer other
Stands k (turn (Refused x) one other) = Unit {0}
Stands k (turn Full one other) = ⊥

-- ---- the two ways

-- a number of files
pub parity : (n : ℕ) → (n % 2 ≡ 0) ⊎ (n % 2 ≡ 1)
parity n = go (n % 2) refl
  where
    go : (r : ℕ) → n % 2 ≡ r → (n % 2 ≡ 0) ⊎ (n % 2 ≡ 1)
    go zero e = inl (omega arith)
    go (suc r) e = inr (omega arith)

pub added-full : (p : Pile) (f one other : List ℕ) → pile_limit ≤ p.files → added p f one other ≡ turn Full one other
unfolding added
added-full p f one other h = sym (is_le _ _ _ _ h refl)

module _ (p : Pile) (f one other : List ℕ) (l : p.files < pile_limit) where
  pub added_even : p.files % 2 ≡ 0 → added p f one other ≡ turn (grown_as p (more_answer p other f one)) (more_buffer p other f one) other
  unfolding added
  added_even e = sym (no_le _ _ _ _ l (is_eq _ _ _ _ e refl))

  pub added_odd : p.files % 2 ≡ 1 → added p f one other ≡ turn (grown_as p (more_answer p one f other)) one (more_buffer p one f other)
  unfolding added
  added_odd e = sym (no_le _ _ _ _ l (no_eq _ _ _ _ (λ z. omega arith) refl))

module _ (p : Pile) (one other : List ℕ) where
  held_even : p.files % 2 ≡ 0 → held_by p one other ≡ take p.length other
  unfolding held_by
  held_even e = sym (is_eq _ _ _ _ e refl)

  held_odd : p.files % 2 ≡ 1 → held_by p one other ≡ take p.length one
  unfolding held_by
  held_odd e = sym (no_eq _ _ _ _ (λ z. omega arith) refl)

-- ---- what is left

-- in the buffer that was written
pub left_even : (p : Pile) (r : Result ℕ LinkRefusal) (one other : List ℕ) → p.files % 2 ≡ 0 → left_of (turn (grown_as p r) one other) ≡ left_in one r
unfolding left_of grown_as left_in
left_even p (Ok n) one other e = ap (λ (b : List ℕ). some b) (held_odd (record { files = p.files + 1; length = n }) one other (omega arith))
left_even p (Err x) one other e = refl

pub left_odd : (p : Pile) (r : Result ℕ LinkRefusal) (one other : List ℕ) → p.files % 2 ≡ 1 → left_of (turn (grown_as p r) one other) ≡ left_in other r
unfolding left_of grown_as left_in
left_odd p (Ok n) one other e = ap (λ (b : List ℕ). some b) (held_even (record { files = p.files + 1; length = n }) one other (omega arith))
left_odd p (Err x) one other e = refl

-- a further file: what a link leaves
next_left : (p : Pile) (held f out : List ℕ) → (p.files ≡ 0 → ⊥) → left_in (more_buffer p held f out) (more_answer p held f out) ≡ left_by (take p.length held) f out
unfolding more_answer more_buffer left_by link_answer link_buffer
next_left p held f out z = ap (λ (o : Outcome LinkRefusal). left_in (after o out) (linked_as o)) (more_next p held f (length out) z)

-- the first: itself
first_left : (p : Pile) (held f out : List ℕ) → p.files ≡ 0 → whole_in (length out) f ≡ written f → length f ≤ length out → left_in (more_buffer p held f out) (more_answer p held f out) ≡ some f
unfolding more_answer more_buffer left_in after linked_as
first_left p held f out z w l =
    ap (λ (o : Outcome LinkRefusal). left_in (after o out) (linked_as o)) (more_first p held f (length out) z ∙ w)
    ∙ ap (λ (b : List ℕ). some b) (front out f l)

-- ---- where it stands

after-length : (o : Outcome LinkRefusal) (out : List ℕ) → length (after o out) ≡ length out
unfolding after
after-length (refused x) out = refl
after-length (written b) out = length-sets out 0 b

more_length : (p : Pile) (held f out : List ℕ) → length (more_buffer p held f out) ≡ length out
unfolding more_buffer
more_length p held f out = after-length (more_in (length out) p held f) out

grown_Stands : (p : Pile) (r : Result ℕ LinkRefusal) (one other : List ℕ) → Buffer one → Buffer other → Stands (p.files + 1) (turn (grown_as p r) one other)
unfolding grown_as
grown_Stands p (Ok n) one other a b = (refl, a, b)
grown_Stands p (Err x) one other a b = tt

pub added-Stands : (p : Pile) (f one other : List ℕ) → p.files < pile_limit → Buffer one → Buffer other → Stands (p.files + 1) (added p f one other)
added-Stands p f one other l a b = elim (parity p.files) [
  | inl e ↦ rw (added_even p f one other l e) (grown_Stands p (more_answer p other f one) (more_buffer p other f one) other (more_length p other f one ∙ a) b)
  | inr e ↦ rw (added_odd p f one other l e) (grown_Stands p (more_answer p one f other) one (more_buffer p one f other) a (more_length p one f other ∙ b))
]

-- ---- one more file

-- it is linked with what was left, into a buffer of 1,048,576 bytes
pub next_links : (p : Pile) (f one other : List ℕ) → p.files < pile_limit → (p.files ≡ 0 → ⊥) → Buffer one → Buffer other → (out : List ℕ) × Buffer out × (left_of (added p f one other) ≡ left_by (held_by p one other) f out)
next_links p f one other l z a b = elim (parity p.files) [
  | inl e ↦ (one, a, ap left_of (added_even p f one other l e) ∙ left_even p (more_answer p other f one) (more_buffer p other f one) other e ∙ next_left p other f one z ∙ ap (λ (h : List ℕ). left_by h f one) (sym (held_even p one other e)))
  | inr e ↦ (other, b, ap left_of (added_odd p f one other l e) ∙ left_odd p (more_answer p one f other) one (more_buffer p one f other) e ∙ next_left p one f other z ∙ ap (λ (h : List ℕ). left_by h f other) (sym (held_odd p one other e)))
]

pub accepted_short : (s : List ℕ) (t : Typelib) (e : ℕ) → decode s ≡ got t e → length s ≤ file_limit
accepted_short s (typelib h notes es) e d = (accepted_obeys s d).0.short

-- the first, where it is accepted
pub first_taken : (p : Pile) (f one other : List ℕ) → p.files ≡ 0 → Buffer one → (t : Typelib) (e : ℕ) → decode f ≡ got t e → left_of (added p f one other) ≡ some f
first_taken p f one other z a t e d =
    let l : length f ≤ length one = omega (arith, a, accepted_short f t e d) in
    let k : p.files % 2 ≡ 0 = omega arith in
    ap left_of (added_even p f one other (omega arith) k) ∙ left_even p (more_answer p other f one) (more_buffer p other f one) other k ∙ first_left p other f one z (kept_in f (t, e, d) one l) l

-- ---- after the last file

pub ended_same : (k : ℕ) (t : Turn) → Stands k t → 2 ≤ k → left_of (onward ended t) ≡ left_of t
unfolding onward ended
ended_same k (turn (Grown p) one other) s l = ap left_of (sym (is_lt _ _ _ _ (omega (arith, s.0)) refl))
ended_same k (turn (Refused x) one other) s l = refl
ended_same k (turn Full one other) s l = absurd s

pub ended_alone : (k : ℕ) (t : Turn) → Stands k t → k ≤ 1 → onward ended t ≡ onward (λ p. added p empty_file) t
unfolding onward ended
ended_alone k (turn (Grown p) one other) s l = sym (no_lt _ _ _ _ (omega (arith, s.0)) refl)
ended_alone k (turn (Refused x) one other) s l = refl
ended_alone k (turn Full one other) s l = absurd s
