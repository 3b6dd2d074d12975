-- Each entry of an accepted file's meaning is sound by itself, and their references are keys of theirs.
-- Assumes nothing.
use mathlib.Core.Path.{◌≡◌}
use mathlib.Core.List.{List}
use Prim.Native.Nat.{ℕ}
use lib.ListN.{length}
use Rattle.reading.specs.Got.{got}
use Rattle.reader.specs.Values.{Entry, Typelib, typelib, entries_in}
use Rattle.reader.specs.Records.{Bytes}
use Rattle.reader.specs.Rules.{All, InDirectory, EntryRule}
use Rattle.reader.specs.Reader.{decode}
use Rattle.reader.specs.Reader.Laws.{accepted_shows, accepted_obeys}
use Rattle.meaning.specs.Meaning.{map_entry, key_of_index, meaning}
use Rattle.meaning.specs.Refs.{EntryRefs}
use Rattle.meaning.specs.Index.{Closed}
use Rattle.meaning.proofs.Alls.{All-then, All-both, All-map}
use Rattle.meaning.proofs.Indexes.{Closed-meaning}
use Rattle.meaning.specs.Normal.Ranged.{RangedEntry}
use Rattle.meaning.specs.Normal.Encodable.{Sound}
use Rattle.meaning.proofs.Normal.Ranges.{shown_ranged, ranged_entry}
use Rattle.meaning.proofs.Normal.Apart.{EntryRefs-in, entry_obeys_apart, EntryApart-same}

-- soundness is free of the references
pub Sound-mapped : {R S : Type 0} (g : R → S) (u : Entry R) → Sound u → Sound (map_entry g u)
Sound-mapped g u s = record { rule = rw (EntryApart-same g u) s.rule; ranged = rw (ranged_entry g u) s.ranged }

module _ (minor n : ℕ) (es : List (Entry ℕ)) (rules : All (EntryRule minor n) es) where
  pub Sound-meaning : All RangedEntry es → All Sound (meaning es)
  unfolding meaning
  Sound-meaning a =
      All-map (map_entry (key_of_index es)) Sound Sound (Sound-mapped (key_of_index es)) es
      (All-both (EntryRule minor n) RangedEntry Sound (λ e r g. record { rule = entry_obeys_apart minor n e r; ranged = g }) es rules a)

  pub rules_Closed : length es ≡ n → Closed (meaning es)
  rules_Closed c = Closed-meaning es (rw c (All-then (EntryRule minor n) (EntryRefs (InDirectory n)) (EntryRefs-in minor n) es rules))

module _ (s : List ℕ) (bytes : Bytes s) where
  pub accepted_Sound : (t : Typelib) {e : ℕ} → decode s ≡ got t e → All Sound (meaning (entries_in t)) × Closed (meaning (entries_in t))
  unfolding entries_in
  accepted_Sound (typelib h notes es) d =
      let shows = accepted_shows s d in
      let rules = (accepted_obeys s d).2 in (
        Sound-meaning h.minor h.count es rules.each (shown_ranged s bytes (typelib h notes es) shows),
        rules_Closed h.minor h.count es rules.each shows.2.count,
      )
