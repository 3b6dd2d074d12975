-- What is said of a constant that was found.
-- Assumes nothing.
use Rattle.reading.specs.declared.Refusal.{Refusal}
use Rattle.rdb_value.specs.declared.Value.{Value}
use Rattle.std.specs.Prelude.{Option, Result}
use mathlib.Core.Path.{◌≡◌, refl, ap}
use mathlib.Core.List.{List, ◌++◌}
use Prim.Native.Nat.{ℕ}
use Rattle.reading.specs.Got.{Accepted}
use Rattle.text.specs.Line.{newline}
use Rattle.said.specs.declared.Why.TheVariants.{Answered}
use Rattle.said.specs.Texts.{found}
use Rattle.said.specs.Saying.{saying}
use Rattle.rdb_record.specs.Constant.{read_constant}
use Rattle.rdb.specs.Questions.{constant_said}
use Rattle.rdb.proofs.AnswerLaws.{value_said}
use Rattle.rdb_list.specs.Listed.{value_in}
use Rattle.rdb_shown.specs.Texts.{value_text}
use Rattle.rdb_said.specs.Sayings.{say_constant}

pub value_line : (s : List ℕ) (o : ℕ) → Accepted (read_constant s o) → saying ((found ++ value_text (value_in s o)) ++ newline) Answered ≡ say_constant (constant_said (read_constant s o))
unfolding say_constant value_in
value_line s o a = ap (λ (x : Result (Option Value) Refusal). say_constant x) (value_said s o a refl)
