-- What a pile leaves is no longer than the buffers.
-- Assumes nothing.
use mathlib.Core.List.{List}
use Prim.Native.Nat.{ℕ, ◌%◌, ◌≤◌}
use native.Mathlib.Omega.{arith}
use lib.ListN.{length, take}
use Rattle.number.specs.Limits.{pile_limit}
use Rattle.number.specs.Choice.{◌<?◌, ◌≤?◌, ◌=?◌}
use Rattle.number.proofs.Choice.{both, from_not_lt}
use Rattle.reader.specs.Reader.{decode}
use Rattle.joining.specs.Outcome.{Outcome, refused, written, in_room}
use Rattle.link.specs.declared.LinkRefusal.{LinkRefusal}
use Rattle.link.specs.declared.Which.TheVariants.{Union}
use Rattle.link.specs.Outcome.{refusal_of, link_in, link_of, linked_as}
use Rattle.pile.specs.declared.Pile.{Pile}
use Rattle.pile.specs.declared.Added.TheVariants.{Grown, Refused, Full}
use Rattle.pile.specs.Pile.{empty_file, whole_in, whole_of, more_in, more_answer, more_buffer, grown_as, Turn, turn, added, ended}

-- an outcome of at most `room` bytes
abbrev pub Fits : {X : Type 0} → ℕ → Outcome X → Type 0
Fits room (refused x) = Unit {0}
Fits room (written bytes) = length bytes ≤ room

pub in_room_lem : {X : Type 0} (stop : ℕ → ℕ → X) (room : ℕ) (o : Outcome X) → Fits room (in_room stop room o)
unfolding in_room
in_room_lem stop room (refused x) = tt
in_room_lem {X} stop room (written bytes) =
    both (λ (o : Outcome X). Fits room o) (room <? length bytes) (refused (stop 27 (length bytes))) (written bytes) (λ _. tt) (λ t. from_not_lt room (length bytes) t)

-- a pile of at most `room` bytes
abbrev pub PileFits : ℕ → Turn → Type 0
PileFits room (turn (Grown p) one other) = p.length ≤ room
PileFits room (turn (Refused x) one other) = Unit {0}
PileFits room (turn Full one other) = Unit {0}

module _ (room : ℕ) where
  grown_Fits : (p : Pile) (n : ℕ) (o : Outcome LinkRefusal) (one other : List ℕ) → n ≤ room → Fits n o → PileFits room (turn (grown_as p (linked_as o)) one other)
  unfolding grown_as linked_as
  grown_Fits p n (refused x) one other l h = tt
  grown_Fits p n (written bytes) one other l h = omega (arith, h)

  more_Fits : (n : ℕ) (p : Pile) (held f : List ℕ) → Fits n (more_in n p held f)
  unfolding more_in whole_in link_in
  more_Fits n p held f =
      both (λ (o : Outcome LinkRefusal). Fits n o) (p.files =? 0) _ _
      (λ _. in_room_lem (refusal_of Union) n (whole_of f (decode f)))
      (λ _. in_room_lem (refusal_of Union) n (link_of (decode (take p.length held)) (decode f)))

  pub added_fits : (p : Pile) (f one other : List ℕ) → length one ≤ room → length other ≤ room → PileFits room (added p f one other)
  unfolding added more_answer
  added_fits p f one other a b =
      both (λ (t : Turn). PileFits room t) (pile_limit ≤? p.files) _ _ (λ _. tt)
      (λ _. both (λ (t : Turn). PileFits room t) (p.files % 2 =? 0) _ _
      (λ _. grown_Fits p (length one) (more_in (length one) p other f) (more_buffer p other f one) other a (more_Fits (length one) p other f))
      (λ _. grown_Fits p (length other) (more_in (length other) p one f) one (more_buffer p one f other) b (more_Fits (length other) p one f)))

  pub ended_fits : (p : Pile) (one other : List ℕ) → length one ≤ room → length other ≤ room → p.length ≤ room → PileFits room (ended p one other)
  unfolding ended
  ended_fits p one other a b l = both (λ (t : Turn). PileFits room t) (1 <? p.files) (turn (Grown p) one other) (added p empty_file one other) (λ _. l) (λ _. added_fits p empty_file one other a b)
