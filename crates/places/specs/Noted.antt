-- Entries noted in tables: the words of their uses, and where their descriptors stand among these.
-- Assumes nothing.
use Rattle.std.specs.Prelude.{◌≡◌, List, [], ◌∷◌, ℕ, zero, suc, ◌+◌, ◌<◌, length, get_or}
use Rattle.reader.specs.Values.{Entry, entry_key, entry_descriptor}
use Rattle.names.specs.Uses.{spelt}
use Rattle.meaning.specs.Stock.Uses.{key_words, entry_words, words_of, own_body}

-- the first use of entry i
unfoldable pub start_use : {R : Type 0} → List (Entry R) → ℕ → ℕ
start_use [] i = 0
start_use (e ∷ us) zero = 0
start_use (e ∷ us) (suc i) = length (entry_words e) + start_use us i

-- how many uses stand before the descriptor of entry i: those of the entries before it and of its key
unfoldable pub body_use : {R : Type 0} → List (Entry R) → ℕ → ℕ
body_use [] i = 0
body_use (e ∷ us) zero = length (key_words (entry_key e))
body_use (e ∷ us) (suc i) = length (entry_words e) + body_use us i

-- what it takes; 0 where there is none
unfoldable pub body_size : {R : Type 0} → List (Entry R) → ℕ → ℕ
body_size [] i = 0
body_size (e ∷ us) zero = own_body (entry_descriptor e)
body_size (e ∷ us) (suc i) = body_size us i

-- n uses and c entries
pub record Noted {R : Type 0} (us : List (Entry R)) (pool other words before sizes : List ℕ) (n c : ℕ) : Type 0 where
  pub uses : n ≡ length (words_of us)
  pub entries : c ≡ length us
  pub spelling : (u : ℕ) → u < n → spelt pool other words u ≡ get_or (words_of us) u []
  pub standing : (i : ℕ) → i < c → get_or before i 0 ≡ body_use us i
  pub taking : (i : ℕ) → i < c → get_or sizes i 0 ≡ body_size us i
