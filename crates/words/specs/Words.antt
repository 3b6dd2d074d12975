-- The words of a line: the parts between separators.
-- Assumes nothing.
use Rattle.std.specs.Prelude.{◌≡◌, List, [], ◌∷◌, ℕ, zero, suc, ◌+◌, ◌-◌, ◌≤◌, length, take, drop}
use Rattle.number.specs.Choice.{when◌then◌else◌, ◌<?◌, ◌=?◌}
use Rattle.words.specs.declared.Span.{Span}

-- the words with b put before the first
unfoldable pub start_with : ℕ → List (List ℕ) → List (List ℕ)
start_with b [] = (b ∷ []) ∷ []
start_with b (w ∷ ws) = (b ∷ w) ∷ ws

-- each separator ends a word and starts the next; a line without one is one word, and so is the empty line
unfoldable pub words_of : ℕ → List ℕ → List (List ℕ)
words_of separator [] = [] ∷ []
words_of separator (b ∷ bs) =
    let rest : List (List ℕ) = words_of separator bs in
    when b =? separator then [] ∷ rest else start_with b rest

-- the k-th of the words, from 0; no bytes where there are fewer
unfoldable pub word_in : ℕ → List (List ℕ) → List ℕ
word_in k [] = []
word_in zero (w ∷ ws) = w
word_in (suc k) (w ∷ ws) = word_in k ws

-- where the k-th of the words starts, one separator standing between two; the end of the last where there are fewer
unfoldable pub start_in : ℕ → List (List ℕ) → ℕ
start_in k [] = 0
start_in zero (w ∷ ws) = 0
start_in (suc k) (w ∷ []) = length w
start_in (suc k) (w ∷ (v ∷ vs)) = length w + 1 + start_in k (v ∷ vs)

-- s is the place of the k-th word of the line
pub record Spans (line : List ℕ) (separator k : ℕ) (s : Span) : Type 0 where
  pub starts : s.from ≡ start_in k (words_of separator line)
  pub ordered : s.from ≤ s.end
  pub inside : s.end ≤ length line
  pub bytes : take (s.end - s.from) (drop s.from line) ≡ word_in k (words_of separator line)

-- the words after one that ends at e, where a separator or the line's end stands
unfoldable pub words_after : ℕ → List ℕ → ℕ → List (List ℕ)
words_after separator line e = when e <? length line then words_of separator (drop (e + 1) line) else []

-- e is where the word that starts at `from` ends
pub record Ends (line : List ℕ) (separator from e : ℕ) : Type 0 where
  pub ordered : from ≤ e
  pub inside : e ≤ length line
  pub first : words_of separator (drop from line) ≡ take (e - from) (drop from line) ∷ words_after separator line e
