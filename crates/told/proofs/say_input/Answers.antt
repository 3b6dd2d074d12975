-- `told::say_input` meets its contract.
-- Assumes nothing.
use Rattle.failures.specs.Lines.{input_in_batch_text}
use Rattle.streams.proofs.PrintLaws.{Made-Front}
use Rattle.told.proofs.say_input.Goals as goal

pub returns : goal.returns
returns c = c.answered.ensures input_in_batch_text (c.put_error.ensures input_in_batch_text (Made-Front input_in_batch_text _ c.input_in_batch-n.new.text c.input_in_batch-n.result c.input_in_batch-n.ensures))
