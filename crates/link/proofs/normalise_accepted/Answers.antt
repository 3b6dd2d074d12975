-- `link::normalise_accepted` meets its contract.
-- Assumes nothing.
use Rattle.link.proofs.Faces as faces
use Rattle.link.proofs.normalise_accepted.Goals as goal

pub join_files-requires : goal.join_files-requires
join_files-requires c = faces.alone_Given _ _ c.requires c.layout_of-l.ensures

pub returns : goal.returns
returns c = faces.normal_joined _ _ c.requires c.layout_of-l.ensures _ c.join_files.ensures
