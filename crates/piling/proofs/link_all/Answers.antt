-- `piling::link_all` meets its contract.
-- Assumes nothing.
use Rattle.number.proofs.Tools.{subst, arith}
use Rattle.piling.specs.Fetching.{ShortEnd}
use Rattle.piling.proofs.PileLaws.{begins, goes_on_lem, stops_short, refuses_next, closes, ended-Short}
use Rattle.piling.proofs.link_all.Goals as goal

pub loop-k-init : goal.loop-k-init
loop-k-init c = rw c.begin-pile.ensures (begins _ _ _ _ _ _ c.requires.1)

pub add_next-next-requires : goal.add_next-next-requires
add_next-next-requires c = (omega arith, c.loop-k.invariant.tidy)

pub returns-in_default : goal.returns-in_default
returns-in_default c = record { tidy = c.add_next-next.ensures.0; few = omega arith; short = c.add_next-next.ensures.1.0; ends = stops_short _ _ _ _ _ _ _ _ _ _ _ c.loop-k.invariant _ _ _ _ _ c.in_default.is c.add_next-next.ensures.1.1 }

pub returns-in_default-added : goal.returns-in_default-added
returns-in_default-added c = record { tidy = c.add_next-next.ensures.0; few = omega arith; short = subst ShortEnd c.in-Added.is c.add_next-next.ensures.1.0; ends = refuses_next _ _ _ _ _ _ _ _ _ _ _ c.loop-k.invariant _ _ _ _ _ c.in-Added.is c.in_default-added.not-Grown c.add_next-next.ensures.1.1 }

pub loop-k-preserved : goal.loop-k-preserved
loop-k-preserved c = goes_on_lem _ _ _ _ _ _ _ _ _ _ _ c.loop-k.invariant _ _ _ _ _ _ c.in-Added.is c.in-Grown.is c.add_next-next.ensures.1.1 c.loop-k-test.true c.add_next-next.ensures.0 c.add_next-next.ensures.1.0

pub returns : goal.returns
returns c =
    record {
      tidy = c.loop-k.invariant.tidy;
      few = c.loop-k.invariant.few;
      short = ended-Short c.loop-k.pile c.loop-k.one c.loop-k.other _ _ _ (omega arith) (omega arith) c.loop-k.invariant.short c.finish.ensures;
      ends = closes _ _ _ _ _ _ _ _ _ _ _ c.loop-k.invariant _ _ _ c.finish.ensures (omega (arith, c.loop-k.invariant.few));
    }
