-- `link::link_accepted` meets its contract.
-- Assumes nothing.
use Rattle.link.proofs.Faces as faces
use Rattle.link.proofs.link_accepted.Goals as goal

pub join_files-requires : goal.join_files-requires
join_files-requires c = let p = c.requires in faces.pair_Given _ _ _ _ p.0 p.1 c.layout_of-l.ensures c.layout_of-l2.ensures

pub returns-in-Ok : goal.returns-in-Ok
returns-in-Ok c = let p = c.requires in (faces.linked_written _ _ _ _ p.0 p.1 c.layout_of-l.ensures c.layout_of-l2.ensures _ c.join_files.ensures c.in-Ok.is, faces.linked_buffer _ _ _ _ p.0 p.1 c.layout_of-l.ensures c.layout_of-l2.ensures _ c.join_files.ensures)

pub returns-in-Err : goal.returns-in-Err
returns-in-Err c = let p = c.requires in (faces.linked_refused _ _ _ _ p.0 p.1 c.layout_of-l.ensures c.layout_of-l2.ensures _ c.join_files.ensures c.in-Err.is, faces.linked_buffer _ _ _ _ p.0 p.1 c.layout_of-l.ensures c.layout_of-l2.ensures _ c.join_files.ensures)
