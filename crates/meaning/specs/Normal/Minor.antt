-- Document 02, "Minor version 2": the minor that entries are written with. Minor 2 brought three tags, 23 to 25.
-- Assumes nothing.
use Rattle.std.specs.Prelude.{◌≡◌, Bool, false, List, [], ◌∷◌, ◌++◌, ℕ}
use Rattle.std.proofs.Math.Option.{Option, none, some}
use Rattle.number.specs.Choice.{when◌then◌else◌, ◌≤?◌}
use Rattle.reader.specs.Values.{Ty, simple, interface, interface_is, array, sized, Param, param_type, Method, method, signature, Descriptor, methods_of, Entry, entry_descriptor}
use Rattle.reader.specs.Records.{tag_of, utf8string_tag, further_astring_tag, StringTag, strings_minor}
use Rattle.meaning.specs.Facts.Facts.{In}
use Rattle.meaning.specs.Facts.Conditions.{any_of}

-- ---- where a tag may stand

-- the prefix of a type, and those of array elements at any depth
unfoldable pub prefixes_of : {R : Type 0} → Ty R → List ℕ
prefixes_of (simple b) = b ∷ []
prefixes_of (interface b r) = b ∷ []
prefixes_of (interface_is b a) = b ∷ []
prefixes_of (array b x y t) = b ∷ prefixes_of t
prefixes_of (sized b x y) = b ∷ []

-- the arguments of a method, and its result
unfoldable pub params_of : {R : Type 0} → Method R → List (Param R)
params_of (method f w (signature ps r)) = ps ++ (r ∷ [])

-- ---- whether one of the new tags does

unfoldable pub new_tag : ℕ → Bool
new_tag t = when utf8string_tag ≤? t then t ≤? further_astring_tag else false

unfoldable pub new_prefix : ℕ → Bool
new_prefix b = new_tag (tag_of b)

unfoldable pub new_type : {R : Type 0} → Ty R → Bool
new_type t = any_of new_prefix (prefixes_of t)

unfoldable pub new_param : {R : Type 0} → Param R → Bool
new_param x = new_type (param_type x)

unfoldable pub new_method : {R : Type 0} → Method R → Bool
new_method m = any_of new_param (params_of m)

unfoldable pub new_descriptor : {R : Type 0} → Descriptor R → Bool
new_descriptor d = any_of new_method (methods_of d)

unfoldable pub new_own : {R : Type 0} → Option (Descriptor R) → Bool
new_own none = false
new_own (some d) = new_descriptor d

unfoldable pub new_entry : {R : Type 0} → Entry R → Bool
new_entry u = new_own (entry_descriptor u)

-- 2 if one does, else 1
unfoldable pub minor_of : {R : Type 0} → List (Entry R) → ℕ
minor_of us = when any_of new_entry us then strings_minor else 1

-- ---- the same, as what there is

-- one of the new tags stands in a descriptor: in a type of one of its methods
pub record OccursIn {R : Type 0} (d : Descriptor R) : Type 0 where
  pub owner : Method R
  pub own : In owner (methods_of d)
  pub place : Param R
  pub placed : In place (params_of owner)
  pub byte : ℕ
  pub written : In byte (prefixes_of (param_type place))
  pub string : StringTag (tag_of byte)

-- in the descriptor of one of these entries
pub record Occurs {R : Type 0} (us : List (Entry R)) : Type 0 where
  pub holder : Entry R
  pub there : In holder us
  pub descriptor : Descriptor R
  pub held : entry_descriptor holder ≡ some descriptor
  pub inside : OccursIn descriptor
