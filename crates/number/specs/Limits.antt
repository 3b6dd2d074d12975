-- Document 01, "Sizes", and document 02, #107, for a pile: each number itself is allowed, one more is refused. Eight arrays one inside another stand in the crates `method` and `rules`.
-- Assumes nothing.
use Rattle.std.specs.Prelude.{ℕ, ◌+◌, ◌-◌}

-- bytes of a file
abbrev pub file_limit : ℕ
file_limit = 1048576

-- as many bytes as are read of a typelib, no limit of its own: one more than the largest has
abbrev pub file_most : ℕ
file_most = file_limit + 1

-- interfaces of a file
abbrev pub entry_limit : ℕ
entry_limit = 1024

-- own methods of an interface, and constants
abbrev pub own_limit : ℕ
own_limit = 1024

-- bytes of an identifier
abbrev pub name_limit : ℕ
name_limit = 255

-- bytes of a directory entry
abbrev pub entry_width : ℕ
entry_width = 28

-- rows of two files' entries together
abbrev pub row_limit : ℕ
row_limit = entry_limit + entry_limit

abbrev pub last_row : ℕ
last_row = row_limit - 1

-- files of a pile
abbrev pub pile_limit : ℕ
pile_limit = 256
