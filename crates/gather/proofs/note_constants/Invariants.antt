-- `gather::note_constants` meets its contract.
-- Assumes nothing.
use Rattle.reader.specs.Values.{constant_name}
use Rattle.reader.specs.Records.{ShowsConstant}
use Rattle.writing.specs.Source.{Known}
use Rattle.gather.specs.Words.{Named}
use Rattle.gather.proofs.Walks as walks
use Rattle.gather.proofs.note_constants.Given as goal

abbrev pub invariant-loop-k : goal.invariant-loop-k
invariant-loop-k l = walks.Noting (Known (ShowsConstant l.pool) (Named constant_name)) constant_name l.pool l.base l.n l.at l.u l.initial.words l.k l.p l.words
