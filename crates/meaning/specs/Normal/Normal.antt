-- Document 01, "Normal form", of entries that stand in its order: the plain form, which stores the name of every use.
-- Assumes nothing.
use Rattle.std.specs.Prelude.{List, [], ◌∷◌, ◌++◌, ℕ, ◌+◌, ◌*◌, length}
use Rattle.std.proofs.Math.Option.{Option, none, some}
use Rattle.number.specs.Limits.{entry_width}
use Rattle.number.specs.Choice.{when◌then◌else◌, ◌=?◌}
use Rattle.key.specs.Key.{Key, key}
use Rattle.reader.specs.Values.{Descriptor, Entry, entry, Header, empty, Typelib, typelib}
use Rattle.reader.specs.Records.{magic}
use Rattle.meaning.specs.Index.{keys_of, index_of, renumbered}
use Rattle.meaning.specs.Normal.BigEndian.{bytes_of}
use Rattle.meaning.specs.Normal.Size.{descriptor_size, space_size, entry_size, plain_length}
use Rattle.meaning.specs.Normal.Record.{name_after, descriptor_bytes, name_bytes, names_bytes}
use Rattle.meaning.specs.Normal.Minor.{minor_of}

-- ---- where the parts of an entry lie, its part of the pool starting at the pool pointer q

-- its name stands first
unfoldable pub space_from : ℕ → Key → ℕ
space_from q (key v w) = name_after q w

unfoldable pub own_from : ℕ → Key → ℕ
own_from q (key v w) = space_from q (key v w) + space_size v

-- a descriptor that lies at q has its names right after it
unfoldable pub names_from : {R : Type 0} → ℕ → Descriptor R → ℕ
names_from q d = q + descriptor_size d

-- ---- the pool

unfoldable pub space_bytes : List ℕ → List ℕ
space_bytes [] = []
space_bytes (b ∷ v) = name_bytes (b ∷ v)

-- a descriptor at q, and its names
unfoldable pub own_bytes : {R : Type 0} → (R → ℕ) → ℕ → Option (Descriptor R) → List ℕ
own_bytes f q none = []
own_bytes f q (some d) = descriptor_bytes f (names_from q d) d ++ names_bytes d

-- name; namespace if any; descriptor if any; its method names; its constant names
unfoldable pub entry_pool : {R : Type 0} → (R → ℕ) → ℕ → Entry R → List ℕ
entry_pool f q (entry (key v w) i d) = name_bytes w ++ space_bytes v ++ own_bytes f (own_from q (key v w)) d

unfoldable pub pool_bytes : {R : Type 0} → (R → ℕ) → ℕ → List (Entry R) → List ℕ
pool_bytes f q [] = []
pool_bytes f q (u ∷ us) = entry_pool f q u ++ pool_bytes f (q + entry_size u) us

-- ---- the directory

-- 0 is the default namespace
unfoldable pub space_pointer : ℕ → List ℕ → ℕ
space_pointer q [] = 0
space_pointer q (b ∷ v) = q

-- 0 is no descriptor
unfoldable pub own_pointer : {R : Type 0} → ℕ → Option (Descriptor R) → ℕ
own_pointer q none = 0
own_pointer q (some d) = q

-- IID, name pointer, namespace pointer, descriptor pointer
unfoldable pub entry_bytes : {R : Type 0} → ℕ → Entry R → List ℕ
entry_bytes q (entry (key v w) i d) =
    bytes_of 16 i ++ bytes_of 4 q ++ bytes_of 4 (space_pointer (space_from q (key v w)) v) ++ bytes_of 4 (own_pointer (own_from q (key v w)) d)

unfoldable pub directory_bytes : {R : Type 0} → ℕ → List (Entry R) → List ℕ
directory_bytes q [] = []
directory_bytes q (u ∷ us) = entry_bytes q u ++ directory_bytes (q + entry_size u) us

-- ---- the file

-- the minor that the entries need; directory at 36, field 0 when n = 0; pool at 36 + 28n
unfoldable pub normal_header : {R : Type 0} → List (Entry R) → Header
normal_header us = record {
  minor = minor_of us;
  count = length us;
  directory = when length us =? 0 then 0 else 36;
  pool = 36 + entry_width * length us;
}

-- a header of a file of `len` bytes: magic, major, minor, interface count, file length, directory offset, pool offset
unfoldable pub header_bytes : Header → ℕ → List ℕ
header_bytes h len =
    magic ++ (1 ∷ h.minor ∷ []) ++ bytes_of 2 h.count ++ bytes_of 4 len ++ bytes_of 4 h.directory ++ bytes_of 4 h.pool

-- one annotation, which is empty and marked last, and three zero bytes
unfoldable pub note_bytes : List ℕ
note_bytes = 0x80 ∷ 0x00 ∷ 0x00 ∷ 0x00 ∷ []

-- the plain file of these entries, where f gives the index of a reference
unfoldable pub plain_bytes : {R : Type 0} → (R → ℕ) → List (Entry R) → List ℕ
plain_bytes f us = header_bytes (normal_header us) (plain_length us) ++ note_bytes ++ directory_bytes 1 us ++ pool_bytes f 1 us

-- references are written as indexes of its own directory
unfoldable pub plain_form : List (Entry Key) → List ℕ
plain_form us = plain_bytes (index_of (keys_of us)) us

-- what it shows
unfoldable pub normal_typelib : List (Entry Key) → Typelib
normal_typelib us = typelib (normal_header us) (empty ∷ []) (renumbered us)
