-- `streamed::go_on_lines` meets its contract.
-- Assumes nothing.
use Rattle.streamed.proofs.StreamLaws.{lines-Turned}
use Rattle.streamed.proofs.go_on_lines.Goals as goal

pub go_on-more-requires : goal.go_on-more-requires
go_on-more-requires c = c.requires

pub returns : goal.returns
returns c =
    let a = c.args in
    lines-Turned a.in_batch a.file.now a.out.now a.rest c.go_on-more.result _ c.go_on-more.ensures
