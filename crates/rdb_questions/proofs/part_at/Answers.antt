-- `rdb_questions::part_at` meets its contract.
-- Assumes nothing.
use Rattle.number.proofs.Tools.{sym, ◌∙◌}
use Rattle.rdb_parts.specs.Parts.{ask_part}
use Rattle.rdb_questions.specs.Lines.{the_position, part_saying}
use Rattle.rdb_questions.proofs.PositionLaws.{told_Opens, position_is, position_not_decimal, position_too_large}
use Rattle.rdb_questions.proofs.part_at.Goals as goal

pub returns-in-Ok : goal.returns-in-Ok
unfolding part_saying ask_part
returns-in-Ok c = position_is _ _ _ c.tell.result the_position _ _ _ (sym c.number_of.ensures ∙ c.in-Ok.is) (λ b. told_Opens b _ _ _ _ _ c.part_by_path.ensures c.tell.ensures)

pub returns-in-Err-NotDecimal : goal.returns-in-Err-NotDecimal
unfolding part_saying
returns-in-Err-NotDecimal c = position_not_decimal _ _ _ c.said.result the_position _ _ _ (sym c.number_of.ensures ∙ rw c.in-Err-NotDecimal.field-0-is at c.in-Err-NotDecimal.is) c.mistake.ensures c.said.ensures

pub returns-in-Err-TooLarge : goal.returns-in-Err-TooLarge
unfolding part_saying
returns-in-Err-TooLarge c = position_too_large _ _ _ c.said-in-Err-TooLarge.result the_position _ _ _ (sym c.number_of.ensures ∙ rw c.in-Err-TooLarge.field-0-is at c.in-Err-TooLarge.is) c.mistake-in-Err-TooLarge.ensures c.said-in-Err-TooLarge.ensures
