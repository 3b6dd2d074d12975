-- `gather::note_methods` meets its contract.
-- Assumes nothing.
use Rattle.number.proofs.Tools.{arith, refl}
use Rattle.writing.proofs.Sources.{Known-Stands}
use Rattle.gather.proofs.Walks as walks
use Rattle.gather.proofs.note_methods.Goals as goal

pub loop-k-init : goal.loop-k-init
loop-k-init c = walks.Noting-start _ _ _ _ _ _ _ _ c.requires.0

pub method_name-requires : goal.method_name-requires
method_name-requires c = (Known-Stands (walks.noting_first _ _ _ _ _ _ _ _ _ _ _ c.loop-k.invariant (omega arith)), omega arith)

pub overflow_add-words : goal.overflow_add-words
overflow_add-words c = omega (arith, walks.name_small c.method_name.ensures (walks.noting_first _ _ _ _ _ _ _ _ _ _ _ c.loop-k.invariant (omega arith)))

pub overflow_cast-words : goal.overflow_cast-words
overflow_cast-words c = omega (arith, walks.name_small c.method_name.ensures (walks.noting_first _ _ _ _ _ _ _ _ _ _ _ c.loop-k.invariant (omega arith)))

pub bounds-words-u : goal.bounds-words-u
bounds-words-u c = omega (arith, c.loop-k.invariant.long)

pub method_end-p-requires : goal.method_end-p-requires
method_end-p-requires c = (Known-Stands (walks.noting_first _ _ _ _ _ _ _ _ _ _ _ c.loop-k.invariant (omega arith)), omega arith)

pub loop-k-preserved : goal.loop-k-preserved
loop-k-preserved c = walks.Noting-next _ _ _ _ _ _ _ _ _ _ _ c.loop-k.invariant (omega arith) (omega arith) _ _ (walks.Ends-Known c.method_end-p.ensures) (walks.name_Based c.method_name.ensures _ _ refl)

pub returns : goal.returns
returns c = walks.noting_done _ _ _ _ _ _ _ _ _ _ _ c.loop-k.invariant (omega arith)
