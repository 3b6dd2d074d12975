-- `named::settle` meets its contract: it writes a file, or does not.
-- Assumes nothing.
use Rattle.number.proofs.Tools.{sym, ap, ◌∙◌}
use Rattle.number.proofs.Scans.{clash}
use Rattle.tasks.specs.Tasks.{is_writing}
use Rattle.words.proofs.SpanLaws.{word_bytes}
use Rattle.named.proofs.settle.Goals as goal

pub returns-then-is_writing : goal.returns-then-is_writing
returns-then-is_writing c =
    record {
      tidy = c.forget.ensures.tidy.0;
      gone = rw (← word_bytes _ c.output-name.ensures) (λ _ name e. c.forget.ensures.forgot.none name e);
    }

pub returns-else-is_writing : goal.returns-else-is_writing
returns-else-is_writing c =
    record {
      tidy = c.requires;
      gone = λ w. clash _ w (ap is_writing (sym c.task_of.ensures) ∙ sym c.is_writing.ensures ∙ c.if-is_writing.false);
    }
