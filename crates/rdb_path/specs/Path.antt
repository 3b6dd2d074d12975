-- Request #105: an entity by its dotted path, cut at every dot; a path that isn't there is none.
-- Assumes nothing.
use Rattle.std.specs.Prelude.{Bool, List, [], ◌∷◌, ◌++◌, ℕ, get_or}
use Rattle.std.proofs.Math.Option.{Option, none, some}
use Rattle.number.specs.Choice.{when◌then◌else◌, ◌<?◌, ◌=?◌}
use Rattle.number.specs.Number.{le}
use Rattle.number.specs.Scan.{scan}
use Rattle.key.specs.Word.{same_word}
use Rattle.rdb_map.specs.Map.{entry_place, payload_place, key_at}
use Rattle.rdb_file.specs.Kind.{kind_of, module_kind, group_kind}
use Rattle.rdb_file.specs.Visit.{count_place, map_place}
use Rattle.rdb_file.specs.File.{root_at, root_count}

-- ---- the words of a path

unfoldable pub dot_at : List ℕ → ℕ → Bool
dot_at path i = get_or path i 0 =? 0x2e

-- b before the first word
unfoldable pub onto : ℕ → List (List ℕ) → List (List ℕ)
onto b [] = (b ∷ []) ∷ []
onto b (w ∷ ws) = (b ∷ w) ∷ ws

-- k dots give k + 1 words, which may be empty
unfoldable pub cut : List ℕ → List (List ℕ)
cut [] = [] ∷ []
cut (b ∷ path) = when b =? 0x2e then [] ∷ cut path else onto b (cut path)

-- all words but the last, and the last
unfoldable pub front : List (List ℕ) → List (List ℕ)
front [] = []
front (w ∷ []) = []
front (w ∷ x ∷ ws) = w ∷ front (x ∷ ws)

unfoldable pub last : List (List ℕ) → List ℕ
last [] = []
last (w ∷ []) = w
last (w ∷ x ∷ ws) = last (x ∷ ws)

-- with dots between them
unfoldable pub joined : List (List ℕ) → List ℕ
joined [] = []
joined (w ∷ []) = w
joined (w ∷ x ∷ ws) = w ++ (0x2e ∷ joined (x ∷ ws))

-- ---- where they lead

-- entry i of the map at `at` is called w
unfoldable pub is_called : List ℕ → ℕ → List ℕ → ℕ → Bool
is_called s at w i = same_word (key_at s (entry_place at i)) w

-- the payload of entry i
unfoldable pub payload_at : List ℕ → ℕ → ℕ → ℕ
payload_at s at i = le 4 s (payload_place at i)

-- the payload of the entry called w, of the n entries of the map at `at`; keys are unique, so one at most is called so
unfoldable pub payload_of : List ℕ → ℕ → ℕ → List ℕ → Option ℕ
payload_of s at n w =
    when scan (is_called s at w) n 0 <? n then some (payload_at s at (scan (is_called s at w) n 0)) else
    none

-- go on with what was found
unfoldable pub and_then : Option ℕ → (ℕ → Option ℕ) → Option ℕ
and_then none k = none
and_then (some o) k = k o

-- the entity that the words lead to from that map; each word but the last leads to a module
unfoldable pub entity_in : List ℕ → ℕ → ℕ → List (List ℕ) → Option ℕ
entity_in s at n [] = none
entity_in s at n (w ∷ []) = payload_of s at n w
entity_in s at n (w ∷ x ∷ ws) =
    and_then (payload_of s at n w) λ o.
    when get_or s o 0 =? module_kind then entity_in s (map_place o) (le 4 s (count_place o)) (x ∷ ws) else
    none

unfoldable pub entity_at : List ℕ → List (List ℕ) → Option ℕ
entity_at s ws = entity_in s (root_at s) (root_count s) ws

-- the constant called w, if the entity at o is a constant group
unfoldable pub constant_in : List ℕ → List ℕ → ℕ → Option ℕ
constant_in s w o =
    when kind_of (get_or s o 0) =? group_kind then payload_of s (map_place o) (le 4 s (count_place o)) w else
    none

-- all words but the last lead to the group, and the last is the constant's
unfoldable pub constant_at : List ℕ → List (List ℕ) → Option ℕ
constant_at s ws = and_then (entity_at s (front ws)) (constant_in s (last ws))
