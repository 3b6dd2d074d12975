-- What is said of a text, an attribute or a parameter, by where it stands.
-- Assumes nothing.
use Rattle.std.specs.Prelude.{List, ℕ, ◌+◌, ◌<◌, length, get_or, None, Option, Some}
use Rattle.rdb_ends.specs.Ends.{text_of, text_end}
use Rattle.rdb_ends.specs.Here.{TextHere}
use Rattle.rdb_places.specs.Places.{place_in}
use Rattle.rdb_parts.specs.declared.PartAnswer.{PartAnswer}
use Rattle.rdb_parts.specs.declared.PartAnswer.TheVariants as answer

unfoldable pub text_in : List ℕ → Option ℕ → PartAnswer
text_in s (Some p) = answer.Text (text_of s p)
text_in s None = answer.None

-- text j of the counted list at `at`
unfoldable pub list_text : List ℕ → ℕ → ℕ → PartAnswer
list_text s at j = text_in s (place_in (text_end s) s at j)

-- a byte, a name and a type
unfoldable pub typed_at : List ℕ → ℕ → PartAnswer
typed_at s p = answer.Typed (record { kind = get_or s p 0; name = text_of s (p + 1); of = text_of s (text_end s (p + 1)) })

-- they were read
pub record TypedHere (s : List ℕ) (p : ℕ) : Type 0 where
  pub here : p < length s
  pub name : TextHere s (p + 1)
  pub type : TextHere s (text_end s (p + 1))
