-- `asks::say_why` meets its contract.
-- Assumes nothing.
use Rattle.number.proofs.Tools.{refl}
use Rattle.told.specs.Tells.{is_open}
use Rattle.asks.proofs.say_why.Goals as goal

pub returns-in-Answered : goal.returns-in-Answered
unfolding is_open
returns-in-Answered c = refl

pub returns-in-Refused : goal.returns-in-Refused
unfolding is_open
returns-in-Refused c = refl
