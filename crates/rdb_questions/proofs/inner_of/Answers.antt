-- `rdb_questions::inner_of` meets its contract.
-- Assumes nothing.
use Rattle.number.proofs.Tools.{sym, ◌∙◌}
use Rattle.rdb_questions.specs.Lines.{the_position, inner_saying}
use Rattle.rdb_questions.proofs.PositionLaws.{position_is, position_not_decimal, position_too_large}
use Rattle.rdb_questions.proofs.inner_of.Goals as goal

pub returns-in-Ok : goal.returns-in-Ok
unfolding inner_saying
returns-in-Ok c = position_is _ _ _ c.inner_at.result the_position _ _ _ (sym c.number_of.ensures ∙ c.in-Ok.is) c.inner_at.ensures

pub returns-in-Err-NotDecimal : goal.returns-in-Err-NotDecimal
unfolding inner_saying
returns-in-Err-NotDecimal c = position_not_decimal _ _ _ c.said.result the_position _ _ _ (sym c.number_of.ensures ∙ rw c.in-Err-NotDecimal.field-0-is at c.in-Err-NotDecimal.is) c.mistake.ensures c.said.ensures

pub returns-in-Err-TooLarge : goal.returns-in-Err-TooLarge
unfolding inner_saying
returns-in-Err-TooLarge c = position_too_large _ _ _ c.said-in-Err-TooLarge.result the_position _ _ _ (sym c.number_of.ensures ∙ rw c.in-Err-TooLarge.field-0-is at c.in-Err-TooLarge.is) c.mistake-in-Err-TooLarge.ensures c.said-in-Err-TooLarge.ensures
