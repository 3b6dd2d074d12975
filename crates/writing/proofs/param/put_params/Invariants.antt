-- `writing::param::put_params` meets its contract.
-- Assumes nothing.
use Rattle.number.proofs.Tools.{ℕ}
use Rattle.reader.specs.Records.{ShowsParam}
use Rattle.meaning.specs.Refs.{ParamRefs}
use Rattle.meaning.specs.Normal.Size.{param_size}
use Rattle.meaning.specs.Normal.Record.{run, param_bytes}
use Rattle.writing.specs.Source.{Known, renumber, InTable}
use Rattle.writing.proofs.Turns as turns
use Rattle.writing.proofs.param.put_params.Given as goal

abbrev pub invariant-loop : goal.invariant-loop
invariant-loop l = turns.Writing (Known (ShowsParam l.pool) (ParamRefs (InTable l.shift))) (λ (u : ℕ). param_bytes (renumber l.place l.shift)) (λ (u : ℕ). run (param_bytes (renumber l.place l.shift))) param_size l.n l.at 0 l.initial.out l.counter l.w l.out
