-- `asks::ask_file` meets its contract: the word of the line is the path.
-- Assumes nothing.
use Rattle.asks.specs.Asked.{name_in}
use Rattle.asks.proofs.ask_file.Goals as goal

pub ask_named-requires : goal.ask_named-requires
unfolding name_in
ask_named-requires c = (c.requires.0, (c.requires.1, c.argument-name.ensures.bytes))
