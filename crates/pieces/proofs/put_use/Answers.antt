-- `pieces::put_use` meets its contract.
-- Assumes nothing.
use Rattle.number.proofs.Tools.{arith, refl, sym, ◌∙◌}
use Rattle.iids.specs.Cells.{cell}
use Rattle.names.proofs.Words.{word_use}
use Rattle.pieces.proofs.Uses as laws
use Rattle.pieces.proofs.put_use.Goals as goal

pub returns-then-pointer-p : goal.returns-then-pointer-p
unfolding cell
returns-then-pointer-p c =
    let a = c.args in
    laws.use_passed (cell a.places.now) a.p a.u _ _ (λ z. c.if-pointer-p.true (c.pointer.ensures ∙ z))

pub put_led-requires : goal.put_led-requires
unfolding cell
put_led-requires c =
    let a = c.args in
    let z = c.pointer-2.ensures in
    (rw z c.requires.0, laws.use_room (cell a.places.now) a.p a.u _ (sym c.pointer.ensures ∙ (omega arith)) _ (word_use a.pool.now a.other.now a.words.now a.u _ _ refl z) c.requires.1.1)

pub returns : goal.returns
unfolding cell
returns c =
    let a = c.args in
    laws.use_put (cell a.places.now) a.p a.u _ (sym c.pointer.ensures ∙ (omega arith)) _ (word_use a.pool.now a.other.now a.words.now a.u _ _ refl c.pointer-2.ensures) a.out.now _ c.put_led.ensures
