-- Annotations as bytes: where they stand. That their texts are well-formed is said here alone: a text's length counts its characters.
-- Assumes nothing.
use Rattle.std.specs.Prelude.{◌≡◌, List, [], ◌∷◌, ℕ, ◌+◌, ◌%◌, ◌≤◌, ◌<◌, length, get_or}
use Rattle.number.specs.Number.{be}
use Rattle.number.specs.Part.{part}
use Rattle.utf8.specs.Utf8.{Chars}
use Rattle.head.specs.Annotation.{Annotation, empty, texts}

-- a text: the number of its characters in 2 bytes, then their bytes
pub record ShowsText (s : List ℕ) (p : ℕ) (x : List ℕ) (e : ℕ) : Type 0 where
  pub size : Chars x 0 (be 2 s p) (length x)
  pub ends : e ≡ p + 2 + length x
  pub bytes : part s (p + 2) e ≡ x

-- an annotation whose texts stand as T says: the low 7 bits of its first byte are the tag
unfoldable pub ShowsNote : (List ℕ → ℕ → List ℕ → ℕ → Type 0) → List ℕ → ℕ → Annotation → ℕ → Type 0
ShowsNote T s p empty e = (get_or s p 0 % 128 ≡ 0) × (e ≡ p + 1)
ShowsNote T s p (texts x y) e = (get_or s p 0 % 128 ≡ 1) × ((m : ℕ) × T s (p + 1) x m × T s m y e)

-- the first byte b of an annotation that these follow: the top bit is set when none do
unfoldable pub Marks : List Annotation → ℕ → Type 0
Marks [] b = 128 ≤ b
Marks (a ∷ more) b = b < 128

-- from p on the bytes show these annotations, up to e
unfoldable pub ShowsNotes : (List ℕ → ℕ → List ℕ → ℕ → Type 0) → List ℕ → ℕ → List Annotation → ℕ → Type 0
ShowsNotes T s p [] e = e ≡ p
ShowsNotes T s p (a ∷ more) e = Marks more (get_or s p 0) × ((m : ℕ) × ShowsNote T s p a m × ShowsNotes T s m more e)

-- the rule on annotations: there is at least one
pub record NotesRule (notes : List Annotation) : Type 0 where
  pub some : 0 < length notes
