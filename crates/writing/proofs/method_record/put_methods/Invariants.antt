-- `writing::method_record::put_methods` meets its contract.
-- Assumes nothing.
use Rattle.number.proofs.Tools.{ℕ}
use Rattle.iids.specs.Cells.{cell}
use Rattle.reader.specs.Records.{ShowsMethod}
use Rattle.meaning.specs.Normal.Size.{method_size}
use Rattle.meaning.specs.Normal.Record.{method_bytes}
use Rattle.meaning.specs.Stock.Form.{methods_with}
use Rattle.writing.specs.Source.{Known, MethodFit, renumber}
use Rattle.writing.proofs.Turns as turns
use Rattle.writing.proofs.method_record.put_methods.Given as goal

abbrev pub invariant-loop-k : goal.invariant-loop-k
invariant-loop-k l = turns.Writing (Known (ShowsMethod l.pool) (MethodFit l.shift)) (λ (j : ℕ). method_bytes (renumber l.place l.shift) (cell l.places j)) (methods_with (renumber l.place l.shift) (cell l.places)) method_size l.n l.at l.u l.initial.out l.k l.w l.out
