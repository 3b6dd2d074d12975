-- `filing::put_directory` meets its contract.
-- Assumes nothing.
use Rattle.iids.specs.Cells.{cell}
use Rattle.filing.proofs.Rows as laws
use Rattle.filing.proofs.put_directory.Given as goal

abbrev pub invariant-loop-q : goal.invariant-loop-q
invariant-loop-q l = laws.Filing l.high l.low l.t l.starts l.before l.owns (cell l.places) l.c l.q l.initial.out l.out
