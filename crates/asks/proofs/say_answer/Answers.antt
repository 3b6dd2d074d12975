-- `asks::say_answer` meets its contract: the answer stands at the front of its buffer, and was written.
-- Assumes nothing.
use Rattle.number.proofs.Tools.{subst}
use mathlib.Core.List.{[]}
use Rattle.streams.specs.Printed.{Prints}
use Rattle.told.proofs.PrintLaws.{Tells-open}
use Rattle.asks.specs.Asked.{answer_text, Replied, answered}
use Rattle.asks.proofs.AskLaws.{answer_Front}
use Rattle.asks.proofs.say_answer.Goals as goal

pub put-requires : goal.put-requires
put-requires c = (c.answer-said.ensures [] []).fits

pub returns-then-not-put : goal.returns-then-not-put
returns-then-not-put c =
    let a = c.args in
    let text = answer_text a.line.now a.file.now in
    subst (Prints text) c.if-not-put.true (c.put.ensures text (answer_Front a.line.now a.file.now _ c.answer-said.new.head c.answer-said.result (c.answer-said.ensures [] [])))

pub say_why-requires : goal.say_why-requires
say_why-requires c = (c.requires.0, (c.answer-said.ensures [] []).fits)

pub returns : goal.returns
returns c =
    let a = c.args in
    let text = answer_text a.line.now a.file.now in
    let w = subst (Prints text) c.if-not-put.false (c.put.ensures text (answer_Front a.line.now a.file.now _ c.answer-said.new.head c.answer-said.result (c.answer-said.ensures [] []))) in
    Tells-open (Replied a.line.now) c.say_why.result c.say_why.ensures (answered a.file.now c.requires.1.1 w)
