-- `asks::answer_long` meets its contract: what was read stands at the front of the buffer.
-- Assumes nothing.
use mir.Syntax.{w32}
use mir.Facts.{to_z-of_z}
use lib.Seq.{length-take-le}
use Rattle.number.proofs.Tools.{sym, subst, ℕ, arith, take}
use Rattle.input.specs.File.{Unread, FirstBytes}
use Rattle.asks.specs.Asked.{name_in}
use Rattle.asks.proofs.answer_long.Goals as goal

pub say_unread-requires : goal.say_unread-requires
say_unread-requires c =
    let name = name_in c.args.line.now in
    let e = to_z-of_z {w = w32} {z = c.in-Err.error} (record { sfits = omega arith }) in
    (c.requires.0, subst (Unread name) (sym e) (c.in-Err.ensures name c.requires.1.1.0))

pub slice_bounds-say_answer-end : goal.slice_bounds-say_answer-end
slice_bounds-say_answer-end c =
    let r = c.in-Ok.ensures (name_in c.args.line.now) c.requires.1.1.0 in
    sym (length-take-le c.in-Ok.end c.go_on.new.buf r.0)

pub say_answer-requires : goal.say_answer-requires
say_answer-requires c =
    let name = name_in c.args.line.now in
    let r = c.in-Ok.ensures name c.requires.1.1.0 in
    (c.requires.0, (c.requires.1.0, subst (λ (i : ℕ). FirstBytes name i (take c.in-Ok.end c.go_on.new.buf)) (omega (arith, c.told-long)) r.1))
