-- `places::lay_out` meets its contract.
-- Assumes nothing.
use Rattle.places.proofs.Outs as laws
use Rattle.places.proofs.lay_out.Given as goal

abbrev pub invariant-loop-i : goal.invariant-loop-i
invariant-loop-i l = laws.Out l.pool l.other l.words l.before l.sizes l.c l.initial.places l.places l.n l.u l.p l.i
