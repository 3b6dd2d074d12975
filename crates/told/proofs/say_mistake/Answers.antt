-- `told::say_mistake` meets its contract: the line lies within its room.
-- Assumes nothing.
use lib.Seq.{length-take-le}
use Rattle.number.proofs.Tools.{sym, arith, rules}
use Rattle.told.specs.Tells.{is_open}
use Rattle.told.proofs.say_mistake.Goals as goal

pub slice_bounds-error-end-then-files_of-eq0 : goal.slice_bounds-error-end-then-files_of-eq0
slice_bounds-error-end-then-files_of-eq0 c = sym (length-take-le c.args.n c.args.head.now (omega arith))

pub error-requires : goal.error-requires
error-requires c = rw (length-take-le c.args.n c.args.head.now (omega arith)) (omega arith)

pub returns-then-files_of-eq0 : goal.returns-then-files_of-eq0
unfolding is_open
returns-then-files_of-eq0 c = search rules

pub slice_bounds-error-end-3 : goal.slice_bounds-error-end-3
slice_bounds-error-end-3 c = sym (length-take-le c.args.n c.args.head.now (omega arith))

pub error-requires-2 : goal.error-requires-2
error-requires-2 c = rw (length-take-le c.args.n c.args.head.now (omega arith)) (omega arith)

pub returns : goal.returns
unfolding is_open
returns c = search rules
