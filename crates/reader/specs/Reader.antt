-- A file decoded, and the check's answer. Both are shut: the crates above use the laws below them.
-- Assumes nothing.
use Rattle.reading.specs.declared.Refusal.{Refusal}
use Rattle.std.specs.Prelude.{List, ℕ, Result}
use Rattle.reading.specs.Got.{Got}
use Rattle.typelib.specs.Typelib.{Typelib, read_typelib, verdict_of}
pub mod Laws
pub mod Chains
pub mod Marked
pub mod Texts

-- what a file says, or its refusal
pub decode : List ℕ → Got Typelib
decode s = read_typelib s

-- accepted with n, or document 01's number and place
pub check_of : List ℕ → Result ℕ Refusal
check_of s = verdict_of (decode s)
