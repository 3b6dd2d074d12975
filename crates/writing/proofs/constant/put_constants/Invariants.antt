-- `writing::constant::put_constants` meets its contract.
-- Assumes nothing.
use Rattle.number.proofs.Tools.{ℕ}
use Rattle.iids.specs.Cells.{cell}
use Rattle.reader.specs.Records.{ShowsConstant}
use Rattle.meaning.specs.Normal.Size.{constant_size}
use Rattle.meaning.specs.Normal.Record.{constant_bytes}
use Rattle.meaning.specs.Stock.Form.{constants_with}
use Rattle.writing.proofs.Turns as turns
use Rattle.writing.proofs.constant.put_constants.Given as goal

abbrev pub invariant-loop-k : goal.invariant-loop-k
invariant-loop-k l = turns.Writing (ShowsConstant l.pool) (λ (j : ℕ). constant_bytes (cell l.places j)) (constants_with (cell l.places)) constant_size l.n l.at l.u l.initial.out l.k l.w l.out
