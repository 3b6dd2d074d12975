-- `asks::say_unread` meets its contract: the line names the file.
-- Assumes nothing.
use mir.Syntax.{w32}
use mir.Facts.{to_z-of_z}
use Rattle.asks.proofs.AskLaws.{Unread-told}
use Rattle.asks.proofs.say_unread.Goals as goal

pub returns : goal.returns
returns c = Unread-told c.args.line.now c.args.error _ c.say_unread.result (to_z-of_z {w = w32} {z = c.args.error} c.ranges.error) c.requires.1 c.say_unread.ensures
