use Rattle.number.proofs.Tools.{refl}
use Rattle.paths.proofs.Laws.{ended_last, ended_is}
use Rattle.paths.proofs.ended.Goals as goal

pub returns : goal.returns
returns c =
    let e = ended_is _ c.args.path.now _ _ refl c.min-n.ensures c.put_bytes.ensures.1 in
    (rw e (ended_last c.args.path.now), e)
