-- `writing::param::put_type` meets its contract. The measure is the number of the pool's bytes from `at` on.
-- Assumes nothing.
use Rattle.std.specs.Prelude.{◌-◌}
use Rattle.number.proofs.Tools.{length}
use Rattle.writing.proofs.param.+put_type.Given as goal

abbrev pub decreases-put_type : goal.decreases-put_type
decreases-put_type l = length l.pool.now - l.at
