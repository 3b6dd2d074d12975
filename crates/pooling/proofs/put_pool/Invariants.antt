-- `pooling::put_pool` meets its contract.
-- Assumes nothing.
use Rattle.writing.specs.Source.{renumber}
use Rattle.pooling.proofs.Turns as laws
use Rattle.pooling.proofs.put_pool.Given as goal

abbrev pub invariant-loop-q : goal.invariant-loop-q
invariant-loop-q l = laws.Storing l.pool l.other l.n l.words l.places l.before l.bodies l.m l.c (renumber l.place 0) l.q l.u l.w l.initial.out l.out l.owns
