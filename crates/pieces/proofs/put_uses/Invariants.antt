-- `pieces::put_uses` meets its contract.
-- Assumes nothing.
use Rattle.iids.specs.Cells.{cell}
use Rattle.names.specs.Uses.{spelt}
use Rattle.pieces.proofs.Uses as laws
use Rattle.pieces.proofs.put_uses.Given as goal

abbrev pub invariant-loop-k : goal.invariant-loop-k
invariant-loop-k l = laws.Storing (cell l.places) (spelt l.pool l.other l.words) l.u l.e l.p l.initial.out l.k l.w l.out
