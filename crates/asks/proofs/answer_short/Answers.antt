-- `asks::answer_short` meets its contract: what was read stands at the front of the buffer, or fills it.
-- Assumes nothing.
use mathlib.Core.List.{List}
use mir.Syntax.{w32}
use mir.Facts.{to_z-of_z}
use lib.Seq.{length-take-le}
use Rattle.number.proofs.Tools.{sym, subst, ℕ, arith, length, take}
use Rattle.number.specs.Limits.{file_most}
use Rattle.std.specs.Prelude.{Ok}
use Rattle.input.specs.declared.Begun.{Begun}
use Rattle.input.specs.File.{number_of, StandsBehind, Unread, FirstBytes, Begins}
use Rattle.input.proofs.FileLaws.{in_room_lem}
use Rattle.asks.specs.Asked.{name_in}
use Rattle.asks.proofs.answer_short.Goals as goal

pub say_unread-requires : goal.say_unread-requires
say_unread-requires c =
    let e = to_z-of_z {w = w32} {z = c.in-Err.error} (record { sfits = omega arith }) in
    (c.requires.0, subst (Unread (name_in c.args.line.now)) (sym e) (subst (λ (path : List ℕ). Unread path c.in-Err.error) c.requires.1.1 c.in-Err.ensures))

pub ask_long-told-requires : goal.ask_long-told-requires
ask_long-told-requires c =
    let buf = c.begin.new.buf in
    let b = subst (λ (b : Begun). Begins c.args.path.now (Ok b) buf) c.in-Ok-Full.field-0-is c.in-Ok-Full.ensures in
    (c.requires.0, (c.requires.1.0, (subst (λ (path : List ℕ). StandsBehind path (number_of c.in-Ok-Full.source) buf) c.requires.1.1 b, omega (arith, c.told-short))))

pub slice_bounds-say_answer-end : goal.slice_bounds-say_answer-end
slice_bounds-say_answer-end c =
    let buf = c.begin.new.buf in
    let b = subst (λ (b : Begun). Begins c.args.path.now (Ok b) buf) c.in-Ok-Whole.field-0-is c.in-Ok-Whole.ensures in
    sym (length-take-le _ buf (omega (arith, b.0)))

pub say_answer-requires : goal.say_answer-requires
say_answer-requires c =
    let name = name_in c.args.line.now in
    let buf = c.begin.new.buf in
    let n = c.in-Ok-Whole.n in
    let b = subst (λ (b : Begun). Begins c.args.path.now (Ok b) buf) c.in-Ok-Whole.field-0-is c.in-Ok-Whole.ensures in
    let r = subst (λ (path : List ℕ). FirstBytes path (length buf) (take n buf)) c.requires.1.1 b.1 in
    let e = length-take-le n buf (omega (arith, b.0)) in
    (c.requires.0, (c.requires.1.0, in_room_lem name (take n buf) (length buf) file_most r (omega (arith, e, b.0, c.told-short)) (omega (arith, e, b.0, c.told-short))))
