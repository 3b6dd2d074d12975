-- Entries that are sound, and those that have a plain form.
-- Assumes nothing.
use Rattle.std.specs.Prelude.{List, ◌≤◌, length}
use Rattle.number.specs.Limits.{file_limit, entry_limit}
use Rattle.key.specs.Key.{Key}
use Rattle.reader.specs.Values.{Descriptor, Entry}
use Rattle.reader.specs.Rules.{All, DescriptorRule, EntryRule, InOrder, UniqueKeys, NoCycle, newest}
use Rattle.meaning.specs.Meaning.{map_descriptor, map_entry}
use Rattle.meaning.specs.Index.{renumbered, Closed}
use Rattle.meaning.specs.Normal.Size.{plain_length}
use Rattle.meaning.specs.Normal.Ranged.{RangedEntry}

-- all rules of the newest minor but those on indexes: each reference is read as the one entry of a directory
abbrev pub DescriptorApart : {R : Type 0} → Descriptor R → Type 0
DescriptorApart d = DescriptorRule newest 1 (map_descriptor (λ _. 1) d)

abbrev pub EntryApart : {R : Type 0} → Entry R → Type 0
EntryApart u = EntryRule newest 1 (map_entry (λ _. 1) u)

-- an entry by itself: it obeys the rules, and its numbers fit
pub record Sound {R : Type 0} (u : Entry R) : Type 0 where
  pub rule : EntryApart u
  pub ranged : RangedEntry u

-- at most 1,024 entries and 1,048,576 bytes, each entry sound, and no reference to a key that is not there
pub record PlainEncodable (us : List (Entry Key)) : Type 0 where
  pub few : length us ≤ entry_limit
  pub short : plain_length us ≤ file_limit
  pub each : All Sound us
  pub closed : Closed us

-- and may be read back: they stand in the order of a directory, no key is there twice, and every parent chain ends
pub record PlainReadable (us : List (Entry Key)) : Type 0 where
  pub encodable : PlainEncodable us
  pub order : InOrder (renumbered us)
  pub keys : UniqueKeys (renumbered us)
  pub chains : NoCycle (renumbered us)
