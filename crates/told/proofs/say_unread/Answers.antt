-- `told::say_unread` meets its contract: the word of the line names the file.
-- Assumes nothing.
use mathlib.Core.List.{List}
use mir.Syntax.{w32}
use mir.Val.{to_z, of_z}
use mir.Facts.{to_z-of_z}
use Rattle.std.specs.Prelude.{◌-◌}
use Rattle.number.proofs.Tools.{subst, ap, ◌∙◌, ℕ, take, drop}
use Rattle.failures.specs.Lines.{unread_text}
use Rattle.streams.specs.Printed.{Printed}
use Rattle.told.specs.Tells.{Tells}
use Rattle.streams.proofs.PrintLaws.{Made-Front}
use Rattle.told.proofs.say_unread.Goals as goal

pub returns : goal.returns
returns c =
    let name = take (c.argument-name.result.end - c.argument-name.result.from) (drop c.argument-name.result.from c.args.line.now) in
    let e = to_z-of_z {w = w32} {z = c.args.error} c.ranges.error in
    let line = unread_text name (to_z w32 (of_z w32 c.args.error)) in
    let named = ap (unread_text name) e ∙ ap (λ (word : List ℕ). unread_text word c.args.error) c.argument-name.ensures.bytes in
    subst (λ (l : List ℕ). Tells (Printed l) c.answered.result) named (c.answered.ensures line (c.put_error.ensures line (Made-Front line _ c.unread-n.new.text c.unread-n.result c.unread-n.ensures)))
