-- The pool as pieces in order: words, of which a form stores some, and descriptors; and where a word lies.
-- Assumes nothing.
use Rattle.std.specs.Prelude.{Bool, List, [], ◌∷◌, ◌++◌, map, ℕ, ◌+◌}
use Rattle.std.proofs.Math.Option.{Option, none, some}
use Rattle.number.specs.Choice.{when◌then◌else◌, ◌=?◌}
use Rattle.reader.specs.Values.{Descriptor, Entry, entry}
use Rattle.meaning.specs.Normal.Size.{descriptor_size}
use Rattle.meaning.specs.Stock.Uses.{names_of, key_words, first_use, always, at_first, kept_size}

pub data Piece (R : Type 0) : Type 0 where
  -- a use of a name
  word : List ℕ → Piece R
  body : Descriptor R → Piece R

-- descriptor if any; its method names; its constant names
unfoldable pub own_pieces : {R : Type 0} → Option (Descriptor R) → List (Piece R)
own_pieces none = []
own_pieces (some d) = body d ∷ map word (names_of d)

-- Document 01: name; namespace if any; descriptor if any; its method names; its constant names
unfoldable pub entry_pieces : {R : Type 0} → Entry R → List (Piece R)
entry_pieces (entry k i d) = map word (key_words k) ++ own_pieces d

unfoldable pub pieces_of : {R : Type 0} → List (Entry R) → List (Piece R)
pieces_of [] = []
pieces_of (u ∷ us) = entry_pieces u ++ pieces_of us

-- the words that are used
unfoldable pub words_in : {R : Type 0} → List (Piece R) → List (List ℕ)
words_in [] = []
words_in (word w ∷ ps) = w ∷ words_in ps
words_in (body d ∷ ps) = words_in ps

-- ---- sizes, where `kept` tells of each use whether its word is stored, and u is the first use

unfoldable pub pool_size : {R : Type 0} → (ℕ → Bool) → ℕ → List (Piece R) → ℕ
pool_size kept u [] = 0
pool_size kept u (word w ∷ ps) = kept_size kept u w + pool_size kept (u + 1) ps
pool_size kept u (body d ∷ ps) = descriptor_size d + pool_size kept u ps

-- where the word of use k lies if it is stored, the first piece lying at q
unfoldable pub offset : {R : Type 0} → (ℕ → Bool) → ℕ → ℕ → List (Piece R) → ℕ → ℕ
offset kept u q [] k = q
offset kept u q (word w ∷ ps) k = when k =? u then q else offset kept (u + 1) (q + kept_size kept u w) ps k
offset kept u q (body d ∷ ps) k = offset kept u (q + descriptor_size d) ps k

-- ---- the pool pointer of each use

-- document 01: the word of every use is stored, and its pointer leads there
unfoldable pub plain_at : {R : Type 0} → List (Piece R) → ℕ → ℕ
plain_at ps u = 1 + offset always 0 0 ps u

-- document 02: that of a first use is, and later ones point to it
unfoldable pub once_at : {R : Type 0} → List (Piece R) → ℕ → ℕ
once_at ps u = 1 + offset (at_first (words_in ps)) 0 0 ps (first_use (words_in ps) u)
