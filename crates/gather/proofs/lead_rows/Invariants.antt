-- `gather::lead_rows` meets its contract.
-- Assumes nothing.
use Rattle.std.specs.Prelude.{◌≡◌}
use Rattle.number.proofs.Tools.{length}
use Rattle.key.specs.First.{Filled}
use Rattle.gather.specs.Leading.{led_row}
use Rattle.gather.proofs.lead_rows.Given as goal

abbrev pub invariant-loop-q : goal.invariant-loop-q
invariant-loop-q l = (length l.led ≡ length l.initial.led) × Filled l.led l.q (led_row l.n l.pointers l.t)
