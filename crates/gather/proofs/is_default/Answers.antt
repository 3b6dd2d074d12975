-- `gather::is_default` meets its contract.
-- Assumes nothing.
use Rattle.number.proofs.Tools.{arith}
use Rattle.gather.proofs.Keys as laws
use Rattle.gather.proofs.is_default.Goals as goal

pub returns-then-v-eq0 : goal.returns-then-v-eq0
returns-then-v-eq0 c x s = laws.none_is _ _ _ x s (omega arith)

pub bounds-pool-v : goal.bounds-pool-v
bounds-pool-v c = laws.here_in _ _ _ _ c.requires.shown (λ e. omega arith) (omega arith)

pub returns-then-v-le-FILE_LIMIT : goal.returns-then-v-le-FILE_LIMIT
returns-then-v-le-FILE_LIMIT c x s = laws.here_is _ _ _ x s (λ e. omega arith) (omega arith)

pub bounds-other-v : goal.bounds-other-v
bounds-other-v c = laws.there_in _ _ _ _ c.requires.shown (λ e. omega arith) (omega arith)

pub returns : goal.returns
returns c x s = laws.there_is _ _ _ x s (λ e. omega arith) (omega arith)
