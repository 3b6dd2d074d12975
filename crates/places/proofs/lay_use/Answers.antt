-- `places::lay_use` meets its contract.
-- Assumes nothing.
use Rattle.names.proofs.Words.{Led-use}
use Rattle.places.proofs.Uses as laws
use Rattle.number.proofs.Tools.{arith, refl, sym, ◌∙◌}
use Rattle.places.proofs.lay_use.Goals as goal

pub led_size-requires : goal.led_size-requires
led_size-requires c = let p = c.requires in Led-use _ _ _ _ _ _ refl c.pointer.ensures _ p.0 (omega arith)

pub returns-then-f-u : goal.returns-then-f-u
returns-then-f-u c = let p = c.requires in let f = c.if-f-u.true in let x = laws.read_first _ _ _ _ _ p.1.0 (omega arith) c.pointer-f.ensures in (laws.stored_first _ _ _ _ _ _ _ (sym x ∙ f) c.pointer.ensures c.led_size.ensures.0, laws.put_first _ _ _ _ _ p.1.0 (omega arith) c.pointer-f.ensures _ _ f c.cap.ensures, omega arith)

pub offset_bounds-places-f : goal.offset_bounds-places-f
offset_bounds-places-f c = let p = c.requires in omega (arith, laws.read_small _ _ _ _ _ p.1.0 (omega arith) c.pointer-f.ensures)

pub bounds-places-f : goal.bounds-places-f
bounds-places-f c = let p = c.requires in omega (arith, laws.read_small _ _ _ _ _ p.1.0 (omega arith) c.pointer-f.ensures)

pub returns : goal.returns
returns c = let p = c.requires in let f = c.if-f-u.false in let x = laws.read_first _ _ _ _ _ p.1.0 (omega arith) c.pointer-f.ensures in (laws.stored_later _ _ _ _ _ (λ z. f (x ∙ z)), laws.put_later _ _ _ _ _ p.1.0 (omega arith) c.pointer-f.ensures _ f, omega arith)
