-- Document 001, "Len-String" and "Idx-String". Request #105: a text's faults have the offset of the field that names it, 32 before 34.
-- A length counts bytes.
-- Assumes nothing.
use Rattle.std.specs.Prelude.{List, ℕ, ◌+◌, ◌-◌, length}
use Rattle.number.specs.Choice.{when◌then◌else◌, ◌<?◌, ◌≤?◌}
use Rattle.number.specs.Part.{part}
use Rattle.reading.specs.Got.{Got, got, bad, next}
use Rattle.rdb_text.specs.declared.Class.{Class}
use Rattle.rdb_text.specs.declared.Text.{Text}
use Rattle.rdb_text.specs.Field.{uint_of, uint, counted}
use Rattle.rdb_text.specs.Bytes.{suits}

-- the Len-String at p, named by the field at `place`: a UInt32 with top bit 0, and that many bytes
unfoldable pub read_len : Class → List ℕ → ℕ → ℕ → Got Text
read_len c s place p =
    next (uint_of place 4 s p) λ n e.
    when 0x80000000 ≤? n then bad 32 place else
    when length s <? e + n then bad 32 place else
    when suits c (part s e (e + n)) then got (record { at = e; len = n }) (e + n) else
    bad 34 place

-- the Idx-String at p: an Offset with top bit 1, of a Len-String, or a Len-String
unfoldable pub read_text : Class → List ℕ → ℕ → Got Text
read_text c s p =
    next (uint 4 s p) λ v e.
    when v <? 0x80000000 then read_len c s p p else
    next (read_len c s p (v - 0x80000000)) λ t _.
    got t e

-- their number, and that many
unfoldable pub read_texts : Class → List ℕ → ℕ → Got (List Text)
read_texts c s p = counted (read_text c s) s p
