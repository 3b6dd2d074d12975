-- Entries whose words, places and descriptors stand in tables, and where their descriptors come to lie.
-- Assumes nothing.
use Rattle.std.specs.Prelude.{◌≡◌, Bool, List, [], ◌∷◌, ℕ, zero, suc, ◌+◌, ◌≤◌, ◌<◌, length, get_or}
use Rattle.std.proofs.Math.Option.{Option, none, some}
use Rattle.std.proofs.lemmas.List.Edits.{sets}
use Rattle.number.specs.Limits.{file_limit, row_limit}
use Rattle.number.specs.Choice.{when◌then◌else◌, ◌=?◌}
use Rattle.key.specs.First.{Filled}
use Rattle.reader.specs.Values.{Descriptor, Entry, entry_key, entry_descriptor, no_entry}
use Rattle.meaning.specs.Normal.Normal.{own_pointer}
use Rattle.names.specs.Uses.{spelt, Spelt}
use Rattle.meaning.specs.Stock.Uses.{entry_words, words_of, at_first}
use Rattle.meaning.specs.Stock.Pool.{entry_pieces, pieces_of, pool_size, once_at}
use Rattle.meaning.specs.Stock.Form.{descriptor_with, pool_with, own_after}
use Rattle.places.specs.Noted.{body_use}
use Rattle.pieces.specs.Bodies.{Body}

-- b leads to the descriptor d, whose first name is use u; 0 to none
pub record OwnLed (pool other : List ℕ) (n u b : ℕ) (d : Option (Descriptor ℕ)) (e : ℕ) : Type 0 where
  pub absent : b ≡ 0 → d ≡ none
  pub present : (b ≡ 0 → ⊥) → (x : Descriptor ℕ) × (d ≡ some x) × Body pool other n u b x e

unfoldable pub own_with : {R : Type 0} → (R → ℕ) → (ℕ → ℕ) → ℕ → Option (Descriptor R) → List ℕ
own_with f at u none = []
own_with f at u (some d) = descriptor_with f at u d

-- the descriptor of entry i
unfoldable pub own_of : List (Entry ℕ) → ℕ → Option (Descriptor ℕ)
own_of us i = entry_descriptor (get_or us i no_entry)

-- where it lies, the part of the pool of the first entry starting at the pool pointer p, with use u
unfoldable pub own_place : {R : Type 0} → (ℕ → Bool) → ℕ → ℕ → List (Entry R) → ℕ → ℕ
own_place kept u p [] i = 0
own_place kept u p (e ∷ us) zero = own_after kept u p (entry_key e)
own_place kept u p (e ∷ us) (suc i) = own_place kept (u + length (entry_words e)) (p + pool_size kept u (entry_pieces e)) us i

-- its pointer, where each name is stored once; 0 is none
unfoldable pub own_at : List (Entry ℕ) → ℕ → ℕ
own_at us i = own_pointer (own_place (at_first (words_of us)) 0 1 us i) (own_of us i)

-- the pool in which each name is stored once takes so much
unfoldable pub once_pool : List (Entry ℕ) → ℕ
once_pool us = pool_size (at_first (words_of us)) 0 (pieces_of us)

-- c entries with m uses: the words of uses and their places, the descriptors and how many uses stand before each; the first file has n rows
pub record Tabled (pool other : List ℕ) (n : ℕ) (words places before bodies : List ℕ) (m c : ℕ) (us : List (Entry ℕ)) : Type 0 where
  pub uses : m ≡ length (words_of us)
  pub entries : c ≡ length us
  pub few : c ≤ row_limit
  pub known : Spelt pool other words m
  pub spelling : (u : ℕ) → u < m → spelt pool other words u ≡ get_or (words_of us) u []
  pub placed : Filled places m (once_at (pieces_of us))
  pub standing : (i : ℕ) → i < c → get_or before i 0 ≡ body_use us i
  pub owns : (i : ℕ) → i < c → (e : ℕ) × OwnLed pool other n (body_use us i) (get_or bodies i 0) (own_of us i) e

-- there are such entries, and room for their pool
pub record TablesFit (pool other : List ℕ) (n : ℕ) (words places before bodies : List ℕ) (m c limit : ℕ) : Type 0 where
  pub entries : List (Entry ℕ)
  pub tabled : Tabled pool other n words places before bodies m c entries
  pub room : once_pool entries ≤ limit
  pub small : once_pool entries < file_limit

-- p, or 0 where b is 0
unfoldable pub pointed_at : ℕ → ℕ → ℕ
pointed_at b p = when b =? 0 then 0 else p

-- their pool stands at the front, all after it is as before, and the pointers to their descriptors are in `owns`
pub record PutPool (f at : ℕ → ℕ) (us : List (Entry ℕ)) (c : ℕ) (before : List ℕ) (r : ℕ) (after owns : List ℕ) : Type 0 where
  pub size : r ≡ once_pool us
  pub stored : after ≡ sets before 0 (pool_with f at (at_first (words_of us)) 0 (pieces_of us))
  pub pointers : Filled owns c (own_at us)
