-- Document 001, "NUL-Name", "Entry" and "Map". Request #105: 37 comes before an entry's fields; then its name has 32, 34 and 35, and its payload
-- 32 and 33, each with its field's offset.
-- Assumes nothing.
use Rattle.std.specs.Prelude.{Bool, List, ℕ, ◌+◌, ◌-◌, ◌*◌, ◌/◌, length}
use Rattle.number.specs.Choice.{when◌then◌else◌, ◌<?◌, ◌≤?◌}
use Rattle.number.specs.Number.{le}
use Rattle.number.specs.Scan.{some}
use Rattle.reading.specs.Got.{Got, got, bad, next, many}
use Rattle.key.specs.Word.{word_end, word_at, same_word}
use Rattle.rdb_text.specs.declared.Text.{Text}
use Rattle.rdb_text.specs.Field.{uint}
use Rattle.rdb_runs.specs.Bytes.{is_ascii}

-- "65,536 entries visited, each counted whenever its map is read"
abbrev pub visit_limit : ℕ
visit_limit = 65536

-- bytes of an entry: the Offset of its key, then that of its payload
abbrev pub entry_bytes : ℕ
entry_bytes = 8

-- where entry i of the map at `at` stands
abbrev pub entry_place : ℕ → ℕ → ℕ
entry_place at i = at + entry_bytes * i

-- and the Offset of its payload
abbrev pub payload_place : ℕ → ℕ → ℕ
payload_place at i = entry_place at i + 4

-- an entry of a map: its own offset, its key, and its payload's offset
pub data Entry : Type 0 where
  entry : ℕ → Text → ℕ → Entry

unfoldable pub entry_at : Entry → ℕ
entry_at (entry p k q) = p

unfoldable pub entry_key : Entry → Text
entry_key (entry p k q) = k

unfoldable pub entry_payload : Entry → ℕ
entry_payload (entry p k q) = q

-- the name that the Offset at p leads to: non-NUL US-ASCII bytes, then a NUL; one that has no NUL does not fit
unfoldable pub read_key : List ℕ → ℕ → Got Text
read_key s p =
    next (uint 4 s p) λ q e.
    when length s ≤? word_end s q then bad 32 p else
    when is_ascii (word_at s q) then got (record { at = q; len = word_end s q - q }) e else
    bad 34 p

-- the key of the entry at p
unfoldable pub key_at : List ℕ → ℕ → List ℕ
key_at s p = word_at s (le 4 s p)

-- entry j of the map at `at` has the key of the entry at p
unfoldable pub has_key_of : List ℕ → ℕ → ℕ → ℕ → Bool
has_key_of s at p j = same_word (key_at s (entry_place at j)) (key_at s p)

-- how many entries of the map at `at` stand before the one at p
unfoldable pub entries_before : ℕ → ℕ → ℕ
entries_before at p = (p - at) / entry_bytes

-- one of those has the key of the entry at p
unfoldable pub stood_earlier : List ℕ → ℕ → ℕ → Bool
stood_earlier s at p = some (has_key_of s at p) (entries_before at p)

-- the payload's Offset at p: below `hold`, where the record or root map stands that holds the entry
unfoldable pub read_payload : List ℕ → ℕ → ℕ → Got ℕ
read_payload s hold p =
    next (uint 4 s p) λ q e.
    when length s <? q then bad 32 p else
    when hold ≤? q then bad 33 p else
    got q e

-- the entry at p of the map at `at`, where v entries were visited before this map was read
unfoldable pub read_entry : List ℕ → ℕ → ℕ → ℕ → ℕ → Got Entry
read_entry s at hold v p =
    when visit_limit ≤? v + entries_before at p then bad 37 p else
    next (read_key s p) λ k e.
    when stood_earlier s at p then bad 35 p else
    next (read_payload s hold e) λ q e.
    got (entry p k q) e

-- the n entries of the map at `at`
unfoldable pub read_map : List ℕ → ℕ → ℕ → ℕ → ℕ → Got (List Entry)
read_map s hold v n at = many (read_entry s at hold v) n at
