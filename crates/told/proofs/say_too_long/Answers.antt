-- `told::say_too_long` meets its contract.
-- Assumes nothing.
use Rattle.failures.specs.Lines.{line_too_long_text}
use Rattle.streams.proofs.PrintLaws.{Made-Front}
use Rattle.told.proofs.say_too_long.Goals as goal

pub returns : goal.returns
returns c = c.answered.ensures line_too_long_text (c.put_error.ensures line_too_long_text (Made-Front line_too_long_text _ c.line_too_long-n.new.text c.line_too_long-n.result c.line_too_long-n.ensures))
