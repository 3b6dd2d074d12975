-- What is to be saved lies within the output.
-- Assumes nothing.
use mathlib.Core.List.{List}
use Prim.Native.Nat.{ℕ}
use lib.ListN.{length}
use Rattle.number.proofs.Choice.{both}
use Rattle.reading.specs.Got.{Got, got, bad}
use Rattle.reading.specs.declared.Refusal.{Refusal}
use Rattle.reader.specs.Reader.{decode}
use Rattle.joining.specs.Outcome.{Outcome, refused, written, in_room, normalised_as, refusal}
use Rattle.link.specs.declared.Which.TheVariants.{Union}
use Rattle.adopt.specs.Adopt.{adopt_in, adopt_answer}
use Rattle.link.specs.Outcome.{normalise_in, normal_of, normalise_answer, link_in, link_of, linked_as, link_answer, refusal_of}
use Rattle.pile.proofs.Rooms.{Fits, in_room_lem}
use Rattle.salvaging.specs.Text.{salvage_in, salvage_answer}
use Rattle.mend.specs.Left.{Left, left, read_left}
use Rattle.salvage.specs.Salvage.{in_lists, salvage_of}
use Rattle.made.specs.Made.{normalised_save, linked_save, SavedIn}

normalised_saves : (room : ℕ) (o : Outcome Refusal) → SavedIn room (normalised_save (normalised_as (in_room refusal room o)))
unfolding normalised_as normalised_save
normalised_saves room o = go (in_room refusal room o) (in_room_lem refusal room o)
  where
    go : (p : Outcome Refusal) → Fits room p → SavedIn room (normalised_save (normalised_as p))
    go (refused x) h = tt
    go (written bytes) h = h

pub normal_saves : (s out : List ℕ) → SavedIn (length out) (normalised_save (normalise_answer s out))
unfolding normalise_answer normalise_in
normal_saves s out = normalised_saves (length out) (normal_of (decode s))

pub adopt_saves : (s out : List ℕ) → SavedIn (length out) (normalised_save (adopt_answer s out))
unfolding adopt_answer adopt_in
adopt_saves s out = normalised_saves (length out) _

salvage_Fits : (room : ℕ) (s : List ℕ) → Fits room (salvage_in room s)
unfolding salvage_in salvage_of in_lists
salvage_Fits room s = go (read_left s)
  where
    go : (g : Got Left) → Fits room (salvage_of (record { indexes = 1024; numbers = 1024; places = 1024; bytes = room }) g)
    go (bad n q) = tt
    go (got (left t rs) e) = both (λ (o : Outcome Refusal). Fits room o) _ _ _ (λ _. tt) (λ _. in_room_lem refusal room _)

pub salvage_saves : (s out : List ℕ) → SavedIn (length out) (normalised_save (salvage_answer s out))
unfolding salvage_answer normalised_as normalised_save
salvage_saves s out = go (salvage_in (length out) s) (salvage_Fits (length out) s)
  where
    go : (p : Outcome Refusal) → Fits (length out) p → SavedIn (length out) (normalised_save (normalised_as p))
    go (refused x) h = tt
    go (written bytes) h = h

pub link_saves : (a b out : List ℕ) → SavedIn (length out) (linked_save (link_answer a b out))
unfolding link_answer link_in linked_as linked_save
link_saves a b out = go (in_room (refusal_of Union) (length out) (link_of (decode a) (decode b))) (in_room_lem (refusal_of Union) (length out) (link_of (decode a) (decode b)))
  where
    go : (o : Outcome _) → Fits (length out) o → SavedIn (length out) (linked_save (linked_as o))
    go (refused x) h = tt
    go (written bytes) h = h
