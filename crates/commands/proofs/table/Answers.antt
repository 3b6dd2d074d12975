-- `commands::table` meets its contract.
-- Assumes nothing.
use Rattle.words.proofs.SpanLaws.{word_bytes}
use Rattle.streamed.proofs.StreamLaws.{listing-Opens}
use Rattle.commands.specs.Answer.{verb_answer}
use Rattle.commands.proofs.ReplyLaws.{Opens-Replies}
use Rattle.commands.proofs.table.Goals as goal

pub returns : goal.returns
unfolding verb_answer
returns c second out =
    rw (← word_bytes 2 c.word-space.ensures, ← word_bytes 3 c.word-name.ensures)
    (Opens-Replies _ _ _ _ _ _ _ _ (listing-Opens _ _ _ _ _ _ c.open.ensures c.listing.ensures) c.opened.ensures)
