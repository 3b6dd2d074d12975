-- Document 001: "Larger quantities are stored LSB first"; an Offset counts bytes from the start of the file. Request #105: a field that
-- doesn't fit is 32 with its offset.
-- Assumes nothing.
use Rattle.std.specs.Prelude.{List, ℕ}
use Rattle.number.specs.Number.{little}
use Rattle.reading.specs.Got.{Got, next, many, byte_or, field_or}

-- a kind byte, a direction byte
unfoldable pub byte_at : List ℕ → ℕ → Got ℕ
byte_at s p = byte_or 32 p s p

-- a number, by its number of bytes; a fault is that of the field at `place`
unfoldable pub uint_of : ℕ → ℕ → List ℕ → ℕ → Got ℕ
uint_of place k s p = field_or 32 place little k s p

-- one with faults of its own; an Offset is a UInt32
unfoldable pub uint : ℕ → List ℕ → ℕ → Got ℕ
uint k s p = uint_of p k s p

-- "UInt32 number N of .. followed by N * .."
unfoldable pub counted : {X : Type 0} → (ℕ → Got X) → List ℕ → ℕ → Got (List X)
counted rd s p =
    next (uint 4 s p) λ n e.
    many rd n e
