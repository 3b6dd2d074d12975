-- `gather::note_rows` meets its contract.
-- Assumes nothing.
use Rattle.gather.proofs.Turns as turns
use Rattle.gather.proofs.note_rows.Given as goal

abbrev pub invariant-loop-q : goal.invariant-loop-q
invariant-loop-q l = turns.Gone l.pool l.other l.initial.names l.spaces l.bodies l.c l.initial.words l.q l.u l.total l.words l.names l.before l.sizes
