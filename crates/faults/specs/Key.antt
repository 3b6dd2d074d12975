-- The key of an interface as people read it.
-- Assumes nothing.
use Rattle.std.specs.Prelude.{◌≡◌, List, [], ◌∷◌, ◌++◌, ℕ, ◌+◌, ◌-◌, ◌*◌, ◌≤◌, length}
use Rattle.std.proofs.lemmas.List.Edits.{sets}
use Rattle.number.specs.Limits.{entry_width}
use Rattle.number.specs.Choice.{when◌then◌else◌, ◌<?◌, ◌=?◌}
use Rattle.number.specs.Number.{be}
use Rattle.reading.specs.Got.{Got, got, bad, next}
use Rattle.ascii.specs.Ascii.{ascii}
use Rattle.key.specs.Key.{Key, key}
use Rattle.name.specs.Name.{follow, follow_space}
use Rattle.head.specs.declared.Header.{Header}
use Rattle.head.specs.Header.{read_header}
use Rattle.typelib.specs.Typelib.{pool_of}

-- `namespace.name`; the default namespace has no bytes, and no dot
unfoldable pub key_text : Key → List ℕ
key_text (key [] w) = w
key_text (key (b ∷ v) w) = ((b ∷ v) ++ ascii ".") ++ w

-- the key of the directory entry at p: the pool pointers q of its name and v of its namespace
unfoldable pub pointed_key : List ℕ → ℕ → ℕ → ℕ → Got Key
pointed_key pool p q v =
    next (follow pool (p + 16) q) λ w _.
    next (follow_space pool (p + 20) v) λ v e.
    got (key v w) e

-- the key of entry i, from 1, of a file with the header h; 20 is a question that there is no answer to
unfoldable pub key_as : Header → List ℕ → ℕ → Got Key
key_as h s i =
    when i =? 0 then bad 20 0 else
    when h.count <? i then bad 20 0 else
    pointed_key (pool_of h s) (h.directory + entry_width * (i - 1)) (be 4 s (h.directory + entry_width * (i - 1) + 16)) (be 4 s (h.directory + entry_width * (i - 1) + 20))

-- the same of any bytes
unfoldable pub read_key : List ℕ → ℕ → Got Key
read_key s i =
    next (read_header s) λ h _.
    key_as h s i

-- its text, none where it cannot be read
unfoldable pub text_of : Got Key → List ℕ
text_of (got k e) = key_text k
text_of (bad n q) = []

-- the text was written at the front of a buffer of 512 bytes, and r is its length
pub record Written (before text : List ℕ) (r : ℕ) (after : List ℕ) : Type 0 where
  pub size : r ≡ length text
  pub fits : r ≤ 512
  pub stored : after ≡ sets before 0 text
