-- `commands::list` meets its contract.
-- Assumes nothing.
use Rattle.streamed.proofs.StreamLaws.{listing-Opens}
use Rattle.commands.specs.Answer.{verb_answer}
use Rattle.commands.proofs.ReplyLaws.{Opens-Replies}
use Rattle.commands.proofs.list.Goals as goal

pub returns : goal.returns
unfolding verb_answer
returns c ws second out = Opens-Replies _ _ _ _ _ _ _ _ (listing-Opens _ _ _ _ _ _ c.open.ensures c.listing.ensures) c.opened.ensures
