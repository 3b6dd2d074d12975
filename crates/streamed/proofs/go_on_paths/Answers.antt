-- `streamed::go_on_paths` meets its contract.
-- Assumes nothing.
use Rattle.streamed.proofs.StreamLaws.{paths-Turned}
use Rattle.streamed.proofs.go_on_paths.Goals as goal

pub fill-filled-requires : goal.fill-filled-requires
fill-filled-requires c = c.requires.1.begun

pub tab-requires : goal.tab-requires
tab-requires c = c.fill-filled.ensures.inside

pub returns : goal.returns
returns c =
    let a = c.args in
    let p = c.requires.1.begun in
    paths-Turned a.in_batch a.file.now a.out.now _ a.c c.fill-filled.result c.after_paths.result _ p c.fill-filled.ensures c.tab.ensures c.after_paths.ensures
