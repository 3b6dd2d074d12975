-- `asks::ask_named` meets its contract: nothing of standard input was read before.
-- Assumes nothing.
use mathlib.Core.List.{List, []}
use Rattle.number.proofs.Tools.{sym, subst, ◌∙◌, ℕ, arith}
use Rattle.input.specs.File.{number_of, StandsBehind}
use Rattle.asks.proofs.ask_named.Goals as goal

pub ask_long-requires : goal.ask_long-requires
ask_long-requires c =
    let s = c.standard_input.ensures c.args.path.now (sym c.is_input.ensures ∙ c.if-is_input.true) in
    (c.requires.0, (c.requires.1.0, (subst (λ (path : List ℕ). StandsBehind path (number_of c.standard_input.result) []) c.requires.1.1 s, omega arith)))
