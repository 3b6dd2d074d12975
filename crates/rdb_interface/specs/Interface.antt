-- Document 001, kind 5: interface type.
-- Assumes nothing.
use Rattle.std.specs.Prelude.{Bool, true, false, List, [], ℕ}
use Rattle.number.specs.Bits.{bit}
use Rattle.number.specs.Choice.{when◌then◌else◌, ◌<?◌, ◌=?◌}
use Rattle.reading.specs.Got.{Got, got, bad, next}
use Rattle.rdb_text.specs.declared.Class.TheVariants.{Ascii}
use Rattle.rdb_text.specs.declared.Text.{Text}
use Rattle.rdb_text.specs.Field.{byte_at, counted}
use Rattle.rdb_text.specs.Text.{read_text, read_texts}
use Rattle.rdb_record.specs.Notes.{read_notes}
use Rattle.rdb_interface.specs.declared.SetCount.{SetCount}
use Rattle.rdb_interface.specs.declared.SetCount.TheVariants.{Always, UnlessReadOnly}

-- a base, mandatory or optional: name, annotations
pub data Base : Type 0 where
  base : Text → List Text → Base

unfoldable pub read_base : Bool → List ℕ → ℕ → Got Base
read_base a s p =
    next (read_text Ascii s p) λ t e.
    next (read_notes a s e) λ ns e.
    got (base t ns) e

-- kind byte, name, type, get exceptions, set exceptions, annotations
pub data Attribute : Type 0 where
  attribute : ℕ → Text → Text → List Text → List Text → List Text → Attribute

-- Document 001 gives every attribute a number of set exceptions; the files that office suites write leave it out where bit 0x02, read-only, is set.
-- x where an attribute with the kind byte k has that number, y where it is left out
abbrev pub where_sets : {X : Type 0} → SetCount → ℕ → X → X → X
where_sets Always k x y = x
where_sets UnlessReadOnly k x y = when bit 0x02 k =? 1 then y else x

unfoldable pub has_sets : SetCount → ℕ → Bool
has_sets m k = where_sets m k true false

unfoldable pub read_sets : SetCount → ℕ → List ℕ → ℕ → Got (List Text)
read_sets m k s p = where_sets m k (read_texts Ascii s p) (got [] p)

-- kind byte: 0x02 read-only, 0x01 bound; other bits are reserved
unfoldable pub read_attribute : SetCount → Bool → List ℕ → ℕ → Got Attribute
read_attribute m a s p =
    next (byte_at s p) λ k e.
    when 3 <? k then bad 34 p else
    next (read_text Ascii s e) λ t e.
    next (read_text Ascii s e) λ ty e.
    next (read_texts Ascii s e) λ gets e.
    next (read_sets m k s e) λ sets e.
    next (read_notes a s e) λ ns e.
    got (attribute k t ty gets sets ns) e

-- direction, name, type
pub data Parameter : Type 0 where
  parameter : ℕ → Text → Text → Parameter

-- direction byte: 0 for in, 1 for out, 2 for in-out
unfoldable pub read_parameter : List ℕ → ℕ → Got Parameter
read_parameter s p =
    next (byte_at s p) λ d e.
    when 2 <? d then bad 34 p else
    next (read_text Ascii s e) λ t e.
    next (read_text Ascii s e) λ ty e.
    got (parameter d t ty) e

-- name, return type, parameters, exceptions, annotations
pub data Method : Type 0 where
  method : Text → Text → List Parameter → List Text → List Text → Method

unfoldable pub read_method : Bool → List ℕ → ℕ → Got Method
read_method a s p =
    next (read_text Ascii s p) λ t e.
    next (read_text Ascii s e) λ ty e.
    next (counted (read_parameter s) s e) λ ps e.
    next (read_texts Ascii s e) λ xs e.
    next (read_notes a s e) λ ns e.
    got (method t ty ps xs ns) e

-- mandatory bases, optional bases, attributes, methods, annotations
pub data Interface : Type 0 where
  interface : List Base → List Base → List Attribute → List Method → List Text → Interface

-- what follows the kind byte
unfoldable pub read_interface : SetCount → Bool → List ℕ → ℕ → Got Interface
read_interface m a s p =
    next (counted (read_base a s) s p) λ bs e.
    next (counted (read_base a s) s e) λ os e.
    next (counted (read_attribute m a s) s e) λ xs e.
    next (counted (read_method a s) s e) λ ms e.
    next (read_notes a s e) λ ns e.
    got (interface bs os xs ms ns) e
