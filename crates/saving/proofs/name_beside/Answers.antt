use Rattle.std.proofs.Common.{arith}
use lib.Seq.{length-take-le}
use Rattle.decimal.proofs.Laws.{length_u64}
use Rattle.saving.proofs.name_beside.Goals as goal

pub put_labelled-stem-requires : goal.put_labelled-stem-requires
put_labelled-stem-requires c =
    omega (arith, c.told-name, length-take-le c.last_part-n.result c.args.path.now c.last_part-n.ensures.0, c.put_bytes-folder.ensures.0, length_u64 c.args.process (omega arith))

pub put_labelled-number-requires : goal.put_labelled-number-requires
put_labelled-number-requires c =
    omega (arith, c.told-name, length-take-le c.last_part-n.result c.args.path.now c.last_part-n.ensures.0, c.put_bytes-folder.ensures.0, c.put_labelled-stem.ensures.0, length_u64 c.args.process (omega arith), length_u64 c.args.k (omega arith))

pub put_bytes-requires : goal.put_bytes-requires
put_bytes-requires c =
    omega (arith, c.told-name, length-take-le c.last_part-n.result c.args.path.now c.last_part-n.ensures.0, c.put_bytes-folder.ensures.0, c.put_labelled-stem.ensures.0, c.put_labelled-number.ensures.0, length_u64 c.args.process (omega arith), length_u64 c.args.k (omega arith))

pub returns : goal.returns
returns c =
    omega (arith, length-take-le c.last_part-n.result c.args.path.now c.last_part-n.ensures.0, c.put_bytes-folder.ensures.0, c.put_labelled-stem.ensures.0, c.put_labelled-number.ensures.0, c.put_bytes.ensures.0, length_u64 c.args.process (omega arith), length_u64 c.args.k (omega arith))
