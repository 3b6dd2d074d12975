-- `xpt::sessions::go_on` meets its contract: a line, one that was too long, more input, or the end.
-- Assumes nothing.
use Rattle.xpt.proofs.sessions.go_on.Goals as goal

pub take_line-requires : goal.take_line-requires
take_line-requires c = let k = c.in-Line.ensures in ((k.ordered, k.inside), (k.fed, c.requires.1))

pub read_more-came-requires : goal.read_more-came-requires
read_more-came-requires c = let k = c.in-More.ensures in (k.fed, (k.room, k.unended))

pub returns-in-TooLong : goal.returns-in-TooLong
returns-in-TooLong c = (c.in-TooLong.ensures.fed, c.requires.1)
