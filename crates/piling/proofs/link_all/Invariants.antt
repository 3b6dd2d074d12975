-- `piling::link_all` meets its contract.
-- Assumes nothing.
use Rattle.std.specs.Prelude.{◌-◌}
use Rattle.words.specs.Words.{words_of}
use Rattle.tasks.specs.Tasks.{in_batch}
use Rattle.piling.specs.Fetching.{store_of}
use Rattle.piling.proofs.PileLaws.{So}
use Rattle.piling.proofs.link_all.Given as goal

abbrev pub invariant-loop-k : goal.invariant-loop-k
invariant-loop-k l = So (in_batch l.separator) (words_of l.separator l.line) l.n (store_of l.initial.kept l.initial.rows l.initial.store) l.initial.one l.initial.other (store_of l.kept l.rows l.store) l.one l.other l.pile l.k

abbrev pub decreases-loop-k : goal.decreases-loop-k
decreases-loop-k l = l.n - l.k
