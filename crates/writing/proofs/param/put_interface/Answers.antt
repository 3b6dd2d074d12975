-- `writing::param::put_interface` meets its contract.
-- Assumes nothing.
use lib.ListN.{length-set}
use Rattle.number.proofs.Tools.{arith, refl}
use Rattle.writing.specs.Source.{renumber}
use Rattle.writing.proofs.param.put_interface.Goals as goal

pub shape_of-out : goal.shape_of-out
shape_of-out c = omega (arith, simp length-set at c.put_u16.auto.out)

pub returns : goal.returns
unfolding renumber
returns c = (refl, rw (← c.u16_at-r.ensures) c.put_u16.ensures)
