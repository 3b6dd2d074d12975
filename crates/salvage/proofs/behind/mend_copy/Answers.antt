-- `salvage::behind::mend_copy` meets its contract.
-- Assumes nothing.
use Rattle.salvage.proofs.Lefts.{Judged-is, judged_Parents, copy_cleared, copy_ready}
use Rattle.typelib.proofs.WholeLaws.{fronted_Lies, pool_small}
use Rattle.typelib.specs.Typelib.{context_of}
use Rattle.salvage.proofs.behind.mend_copy.Goals as goal

pub judge-requires : goal.judge-requires
judge-requires c = let a = c.requires in (fronted_Lies _ _ _ a.0 a.1, pool_small _ _ _ a.0 a.1, a.3, a.4, a.5)

pub clear_reported-requires : goal.clear_reported-requires
unfolding context_of
clear_reported-requires c = let j = c.judge.ensures in let r = copy_ready _ _ c.requires.0 c.args.copy.now _ c.requires.2 c.put_bytes.ensures.1 in (r.0, r.1, r.2, j.1, j.3, judged_Parents _ _ c.requires.0 _ _ _ (Judged-is _ _ c.requires.0 _ _ _ _ c.requires.1 j.0))

pub returns : goal.returns
unfolding context_of
returns c = let j = c.judge.ensures in (Judged-is _ _ c.requires.0 _ _ _ _ c.requires.1 j.0, copy_cleared _ _ _ _ c.args.copy.now _ _ c.requires.2 c.put_bytes.ensures.1 c.clear_reported.ensures, j.1, j.2, j.3)
