-- `mend::own::judge_with` meets its contract.
-- Assumes nothing.
use Rattle.std.specs.Prelude.{◌≡◌, ◌≤◌, ◌-◌}
use Rattle.mend.specs.Tables.{Judged}
use Rattle.method.specs.Tables.{Remembered}
use Rattle.number.proofs.Tools.{length}
use Rattle.mend.proofs.own.judge_with.Given as goal

abbrev pub invariant-loop-k : goal.invariant-loop-k
invariant-loop-k l = (l.k ≤ l.n) × (1024 ≡ length l.numbers) × (1024 ≡ length l.places) × (1024 ≡ length l.ups) × Judged l.c l.file l.pool l.d l.k l.numbers l.places l.ups × Remembered l.c l.pool l.seen × (length l.seen ≡ length l.initial.seen)

abbrev pub decreases-loop-k : goal.decreases-loop-k
decreases-loop-k l = l.n - l.k
