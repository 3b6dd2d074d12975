-- `places::lay_uses` meets its contract.
-- Assumes nothing.
use Rattle.std.specs.Prelude.{◌+◌, ◌*◌, ◌≤◌}
use Rattle.places.specs.Laying.{Laid}
use Rattle.places.specs.Places.{stored_use}
use Rattle.names.specs.Uses.{spelling}
use Rattle.number.specs.Limits.{file_limit}
use Rattle.places.proofs.lay_uses.Given as goal

abbrev pub invariant-loop-k : goal.invariant-loop-k
invariant-loop-k l = (l.at + l.u * file_limit ≤ l.p + l.k * file_limit) × Laid (spelling l.pool l.other l.words) (stored_use l.pool l.other l.words) l.initial.places l.places l.u l.k l.p l.at
