-- What the writers of descriptors are given.
-- Assumes nothing.
use Rattle.std.specs.Prelude.{◌≡◌, List, [], ◌∷◌, ◌++◌, ℕ, ◌+◌, ◌≤◌, length}
use Rattle.number.specs.Choice.{when◌then◌else◌, ◌=?◌}
use Rattle.names.specs.Uses.{use_limit}
use Rattle.reader.specs.Values.{Constant, Descriptor, descriptor}
use Rattle.reader.specs.Records.{ShowsByte, ShowsField, Run, ShowsConstant, ShowsDescriptor}
use Rattle.meaning.specs.Refs.{AllRefs}
use Rattle.meaning.specs.Normal.BigEndian.{bytes_of}
use Rattle.meaning.specs.Normal.Size.{sum, constant_size}
use Rattle.meaning.specs.Stock.Uses.{names_of}
use Rattle.meaning.specs.Stock.Form.{constants_with}
use Rattle.writing.specs.Source.{renumber, InTable}

-- the index that a parent's index r becomes; 0 is none
unfoldable pub renumber_parent : List ℕ → ℕ → ℕ → ℕ
renumber_parent place shift r = when r =? 0 then 0 else renumber place shift r

-- the tables know its names, u being the first use, and its references
abbrev pub DescriptorFit : ℕ → ℕ → Descriptor ℕ → Type 0
DescriptorFit shift u d = (u + length (names_of d) ≤ use_limit) × AllRefs (InTable shift) d

-- ---- the constants and the flags of a descriptor, which stand after its methods

pub record Tail : Type 0 where
  pub constants : List Constant
  pub flags : ℕ

-- constant count, constants, flags
abbrev pub ShowsTail : List ℕ → ℕ → Tail → ℕ → Type 0
ShowsTail s p t e = ShowsField 2 s p (length t.constants) × ((b : ℕ) × Run (ShowsConstant s) (p + 2) t.constants b × ShowsByte s b t.flags × (e ≡ b + 1))

unfoldable pub tail_of : Descriptor ℕ → Tail
tail_of (descriptor up ms ks f) = record { constants = ks; flags = f }

-- of each descriptor that is shown at p, these stand at r
pub record TailAt (s : List ℕ) (p r : ℕ) : Type 0 where
  pub each : (d : Descriptor ℕ) (e : ℕ) → ShowsDescriptor s p d e → ShowsTail s r (tail_of d) e

-- the table of uses knows its names
abbrev pub TailFit : ℕ → Tail → Type 0
TailFit u t = u + length t.constants ≤ use_limit

unfoldable pub tail_size : Tail → ℕ
tail_size t = 2 + sum constant_size t.constants + 1

-- the name of the first constant is use u
unfoldable pub tail_with : (ℕ → ℕ) → ℕ → Tail → List ℕ
tail_with at u t = bytes_of 2 (length t.constants) ++ constants_with at u t.constants ++ (t.flags ∷ [])
