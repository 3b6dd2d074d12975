use Rattle.std.proofs.Common.{arith}
use Rattle.feed.proofs.BufferLaws.{Adds-more, none_told}
use Rattle.feed.proofs.read_more.Goals as goal

pub returns : goal.returns
returns c =
    let a = c.read_at-arrived.result in
    rw (c.unwrap_or-count.ensures, none_told a _ c.is_none.ensures) (Adds-more _ _ _ _ _ a c.requires.0 c.move_down-kept.ensures c.read_at-arrived.ensures (omega (arith, c.told-input, c.move_down-kept.auto.input)) c.requires.1.1)
