-- Answers asked with a position that a word spells.
-- Assumes nothing.
use Rattle.std.specs.Prelude.{Err, Ok, Result}
use mathlib.Core.Path.{◌≡◌}
use mathlib.Core.Bool.{Bool}
use mathlib.Core.List.{List}
use Prim.Native.Nat.{ℕ}
use Rattle.words.specs.declared.NumberError.{NumberError}
use Rattle.words.specs.declared.NumberError.TheVariants.{NotDecimal, TooLarge}
use Rattle.rdb_interface.specs.declared.SetCount.{SetCount}
use Rattle.rdb_file.specs.File.{read_file}
use Rattle.rdb_parts.specs.declared.PartAnswer.{PartAnswer}
use Rattle.rdb_parts.specs.Parts.{said_of}
use Rattle.rdb_told.specs.Told.{say_part}
use Rattle.rdb_told.proofs.ToldLaws.{Small-said}
use Rattle.said.specs.declared.Said.{Said}
use Rattle.said.specs.Texts.{not_decimal_mistake, too_large_mistake}
use Rattle.said.specs.Saying.{Saying, Says, mistaken}
use Rattle.streamed.specs.declared.Begun.{Begun}
use Rattle.streamed.specs.Stream.{spoken, telling, Opens}
use Rattle.streamed.proofs.StreamLaws.{said_Opens, telling-Opens}
use Rattle.rdb_questions.specs.Lines.{with_position}

-- what is told of a part
pub told_Opens : (b : Bool) (m : SetCount) (f : ℕ → PartAnswer) (s path before : List ℕ) {a : PartAnswer} {r : Begun} → a ≡ said_of f (read_file m s) s path → r ≡ telling a → Opens b (say_part s (said_of f (read_file m s) s path)) s before r before
told_Opens b m f s path before e k = rw (← e) (telling-Opens b s before _ (rw e (Small-said m f s path)) k)

module _ (s before after : List ℕ) (r : Begun) (what : List ℕ) (n : Result ℕ NumberError) (ask : ℕ → Saying) where
  pub position_is : (i : ℕ) → n ≡ Ok i → ((b : Bool) → Opens b (ask i) s before r after) → (b : Bool) → Opens b (with_position what n ask) s before r after
  unfolding with_position
  position_is i e h b = rw e (h b)

  pub position_not_decimal : (said : Said) → n ≡ Err NotDecimal → Says (mistaken (not_decimal_mistake what)) before said after → r ≡ spoken said → (b : Bool) → Opens b (with_position what n ask) s before r after
  unfolding with_position
  position_not_decimal said e h k b = rw e (said_Opens b _ s before after said h k)

  pub position_too_large : (said : Said) → n ≡ Err TooLarge → Says (mistaken (too_large_mistake what)) before said after → r ≡ spoken said → (b : Bool) → Opens b (with_position what n ask) s before r after
  unfolding with_position
  position_too_large said e h k b = rw e (said_Opens b _ s before after said h k)
