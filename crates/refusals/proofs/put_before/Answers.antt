-- `refusals::put_before` meets its contract: the words have room for three digits.
-- Assumes nothing.
use Rattle.std.specs.Prelude.{◌-◌}
use Rattle.number.proofs.Tools.{arith}
use Rattle.decimal.proofs.Laws.{length_byte}
use Rattle.refusals.proofs.put_before.Goals as goal

pub put_labelled-n-requires : goal.put_labelled-n-requires
put_labelled-n-requires c = omega (arith, length_byte (c.args.k - 2) (omega arith))

pub put_bytes-requires : goal.put_bytes-requires
put_bytes-requires c = omega (arith, c.put_labelled-n.auto.out, length_byte (c.args.k - 2) (omega arith))

pub returns : goal.returns
returns c = omega (arith, length_byte (c.args.k - 2) (omega arith))
