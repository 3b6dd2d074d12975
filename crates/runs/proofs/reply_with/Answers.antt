-- `runs::reply_with` meets its contract: an answer, or an output that is saved.
-- Assumes nothing.
use Rattle.number.proofs.Tools.{subst}
use Rattle.number.specs.Limits.{file_limit}
use Rattle.made.specs.Made.{SavedIn}
use Rattle.runs.proofs.reply_with.Goals as goal

pub say_reply-requires : goal.say_reply-requires
say_reply-requires c =
    let p = c.requires in
    let o = c.answer_kept-reply.ensures.1.opens in
    ((p.0, o.fits), (p.1.0, (o.rest, o.left)))

pub save_output-saved-requires : goal.save_output-saved-requires
save_output-saved-requires c = subst (SavedIn file_limit) c.in-Some.is c.answer_kept-reply.ensures.0

pub say_saved-told-requires : goal.say_saved-told-requires
say_saved-told-requires c = (c.requires.0, c.answer_kept-reply.ensures.1.opens.fits)

pub say_changes-requires : goal.say_changes-requires
say_changes-requires c =
    let p = c.requires in
    (p.0, p.1.0)
