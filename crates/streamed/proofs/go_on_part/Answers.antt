-- `streamed::go_on_part` meets its contract.
-- Assumes nothing.
use Rattle.streamed.proofs.StreamLaws.{part-Turned}
use Rattle.streamed.proofs.go_on_part.Goals as goal

pub fill-filled-requires : goal.fill-filled-requires
fill-filled-requires c = c.requires.1.small

pub returns : goal.returns
returns c =
    let a = c.args in
    part-Turned a.in_batch a.file.now a.out.now a.x c.fill-filled.result c.after_part.result _ c.requires.1.small c.fill-filled.ensures c.after_part.ensures
