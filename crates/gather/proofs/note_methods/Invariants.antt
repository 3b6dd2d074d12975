-- `gather::note_methods` meets its contract.
-- Assumes nothing.
use Rattle.reader.specs.Values.{method_name}
use Rattle.reader.specs.Records.{ShowsMethod}
use Rattle.writing.specs.Source.{Known}
use Rattle.gather.specs.Words.{Named}
use Rattle.gather.proofs.Walks as walks
use Rattle.gather.proofs.note_methods.Given as goal

abbrev pub invariant-loop-k : goal.invariant-loop-k
invariant-loop-k l = walks.Noting (Known (ShowsMethod l.pool) (Named method_name)) method_name l.pool l.base l.n l.at l.u l.initial.words l.k l.p l.words
