-- `cabi::kinds::of_no_kind` meets its contract.
-- Assumes nothing.
use Rattle.number.proofs.Tools.{arith, refl, sym}
use Rattle.reader.specs.Values.{Typelib}
use Rattle.reading.specs.Got.{Got}
use Rattle.lookup.specs.Question.{refusal}
use Rattle.lookup.proofs.Asks.{refused_on}
use Rattle.cabi.specs.Kind.{ask_kind}
use Rattle.cabi.proofs.KindLaws.{none_such}
use Rattle.cabi.proofs.kinds.of_no_kind.Goals as goal

pub returns-in_err-check : goal.returns-in_err-check
unfolding ask_kind refusal
returns-in_err-check c = refused_on _ c.in_err-check.ensures.value (λ (g : Got Typelib). ask_kind g c.args.index c.args.name.now c.args.kind) c.from_residual.ensures.1 refl

pub returns : goal.returns
returns c = rw c.at.ensures (none_such _ _ _ (omega arith) (sym c.in_ok-check.ensures.value))
