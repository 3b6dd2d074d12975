-- What the bytes of a directory at d say of its entries, counted from 0: pointers, keys, parents.
-- Assumes nothing.
use Rattle.std.specs.Prelude.{◌≡◌, Bool, List, ℕ, ◌+◌, ◌-◌, ◌*◌, ◌≤◌, ◌<◌, length}
use Rattle.number.specs.Limits.{file_limit, entry_limit, entry_width}
use Rattle.number.specs.Choice.{when◌then◌else◌, ◌=?◌}
use Rattle.number.specs.Number.{be}
use Rattle.key.specs.Word.{Leads}
use Rattle.key.specs.Key.{Key, key_at}

unfoldable pub name_pointer : List ℕ → ℕ → ℕ → ℕ
name_pointer s d k = be 4 s (d + entry_width * k + 16)

unfoldable pub space_pointer : List ℕ → ℕ → ℕ → ℕ
space_pointer s d k = be 4 s (d + entry_width * k + 20)

unfoldable pub own_pointer : List ℕ → ℕ → ℕ → ℕ
own_pointer s d k = be 4 s (d + entry_width * k + 24)

unfoldable pub key_on : List ℕ → List ℕ → ℕ → ℕ → Key
key_on s pool d k = key_at pool (space_pointer s d k) (name_pointer s d k)

-- entry k has the descriptor pointer q
unfoldable pub points_to : List ℕ → ℕ → ℕ → ℕ → Bool
points_to s d q k = own_pointer s d k =? q

-- the index above entry k, counted from 1: 0 above an unresolved entry
unfoldable pub above_on : List ℕ → List ℕ → ℕ → ℕ → ℕ
above_on s pool d k = when own_pointer s d k =? 0 then 0 else be 2 pool (own_pointer s d k - 1)

-- the directory's n entries lie in the file
pub record Lies (s : List ℕ) (n d : ℕ) : Type 0 where
  pub few : n ≤ entry_limit
  pub inside : d + entry_width * n ≤ length s
  pub small : length s ≤ file_limit

-- its names and namespaces lead to words of the pool
pub record Named (s pool : List ℕ) (n d : ℕ) : Type 0 where
  pub name : (k : ℕ) → k < n → Leads pool (name_pointer s d k)
  pub space : (k : ℕ) → k < n → (space_pointer s d k ≡ 0 → ⊥) → Leads pool (space_pointer s d k)

-- its descriptors lie in the pool, and their parents are entries
pub record Rooted (s pool : List ℕ) (n d : ℕ) : Type 0 where
  pub small : length pool ≤ file_limit
  pub inside : (k : ℕ) → k < n → (own_pointer s d k ≡ 0 → ⊥) → own_pointer s d k - 1 + 2 ≤ length pool
  pub entry : (k : ℕ) → k < n → above_on s pool d k ≤ n
