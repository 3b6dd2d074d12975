-- What a check that accepted leaves known of the parts at a position: they were read.
-- Assumes nothing.
use Rattle.std.specs.Prelude.{Bool, List, ℕ}
use Rattle.reading.specs.Got.{Got, many, Accepted}
use Rattle.rdb_text.specs.declared.Class.{Class}
use Rattle.rdb_text.specs.Text.{read_text, read_texts}
use Rattle.rdb_record.specs.Enum as enums
use Rattle.rdb_interface.specs.declared.SetCount.{SetCount}
use Rattle.rdb_interface.specs.Interface as interfaces
use Rattle.rdb_ends.specs.declared.Item.{Item}
use Rattle.rdb_ends.specs.declared.Item.TheVariants.{Member, Base, Attribute, Method}

-- an Idx-String
pub record TextHere (s : List ℕ) (p : ℕ) : Type 0 where
  pub class : Class
  pub read : Accepted (read_text class s p)

-- n of them
pub record RunHere (s : List ℕ) (n p : ℕ) : Type 0 where
  pub class : Class
  pub read : Accepted (many (read_text class s) n p)

-- a counted list of them
pub record ListHere (s : List ℕ) (p : ℕ) : Type 0 where
  pub class : Class
  pub read : Accepted (read_texts class s p)

pub record MemberHere (s : List ℕ) (p : ℕ) : Type 0 where
  pub annotated : Bool
  pub read : Accepted (enums.read_member annotated s p)

pub record AttributeHere (m : SetCount) (s : List ℕ) (p : ℕ) : Type 0 where
  pub annotated : Bool
  pub read : Accepted (interfaces.read_attribute m annotated s p)

pub record MethodHere (s : List ℕ) (p : ℕ) : Type 0 where
  pub annotated : Bool
  pub read : Accepted (interfaces.read_method annotated s p)

-- a part of an enum or an interface
unfoldable pub ItemOf : Item → Type 0
ItemOf Member = enums.Member
ItemOf Base = interfaces.Base
ItemOf Attribute = interfaces.Attribute
ItemOf Method = interfaces.Method

unfoldable pub read_item : (w : Item) → SetCount → Bool → List ℕ → ℕ → Got (ItemOf w)
unfolding ItemOf
read_item Member m a s p = enums.read_member a s p
read_item Base m a s p = interfaces.read_base a s p
read_item Attribute m a s p = interfaces.read_attribute m a s p
read_item Method m a s p = interfaces.read_method a s p
