-- `minor::view_minor` meets its contract.
-- Assumes nothing.
use Rattle.iids.specs.Cells.{cell}
use Rattle.rows.specs.Files.{HoldBoth}
use Rattle.minor.proofs.Minors as laws
use Rattle.minor.proofs.view_minor.Given as goal

abbrev pub invariant-loop-q : goal.invariant-loop-q
invariant-loop-q l = laws.Looked (HoldBoth l.a l.pool l.l l.b l.pool2 l.l2) (cell l.holders) l.t l.c l.q
