-- `writing::param::put_type` meets its contract. The measure is the number of the pool's bytes from `at` on.
-- Assumes nothing.
use Rattle.number.proofs.Tools.{arith, sym, ◌∙◌}
use Rattle.meaning.proofs.Normal.Lengths.{length_type}
use Rattle.reader.specs.declared.record.Form.TheVariants.{Simple, Interface, InterfaceIs, Array, Sized}
use Rattle.writing.specs.Source.{renumber}
use Rattle.writing.proofs.Sources.{Room-lent}
use Rattle.writing.proofs.Types as laws
use Rattle.writing.proofs.Turns as turns
use Rattle.writing.proofs.param.+put_type.Goals as goal

pub bounds-pool-at : goal.bounds-pool-at
bounds-pool-at t c = omega (arith, laws.prefix_room _ _ _ _ c.requires.0)

pub copy-requires : goal.copy-requires
copy-requires t c = laws.prefix_room _ _ _ _ c.requires.0

pub put_interface-requires : goal.put_interface-requires
put_interface-requires t c = let r = laws.form_room _ _ _ _ c.requires.0 Interface (sym c.form_of-f.ensures ∙ c.in-Interface.is) in (r.0, (r.1.0, (r.1.1, omega arith)))

pub copy-requires-in-InterfaceIs : goal.copy-requires-in-InterfaceIs
copy-requires-in-InterfaceIs t c = laws.form_room _ _ _ _ c.requires.0 InterfaceIs (sym c.form_of-f.ensures ∙ c.in-InterfaceIs.is)

pub copy-n-requires : goal.copy-n-requires
copy-n-requires t c = (laws.form_room _ _ _ _ c.requires.0 Array (sym c.form_of-f.ensures ∙ c.in-Array.is)).0

pub overflow_add-at : goal.overflow_add-at
overflow_add-at t c = omega (arith, (laws.form_room _ _ _ _ c.requires.0 Array (sym c.form_of-f.ensures ∙ c.in-Array.is)).0)

pub slice_bounds-put_type-count : goal.slice_bounds-put_type-count
slice_bounds-put_type-count t c = omega (arith, (laws.form_room _ _ _ _ c.requires.0 Array (sym c.form_of-f.ensures ∙ c.in-Array.is)).0)

pub slice_bounds-put_type-start : goal.slice_bounds-put_type-start
slice_bounds-put_type-start t c = omega (arith, (laws.form_room _ _ _ _ c.requires.0 Array (sym c.form_of-f.ensures ∙ c.in-Array.is)).0)

pub put_type-requires : goal.put_type-requires
put_type-requires t c =
    let r = laws.form_room _ _ _ _ c.requires.0 Array (sym c.form_of-f.ensures ∙ c.in-Array.is) in
    (omega (arith, r.0), (Room-lent c.copy-n.new.out c.copy-n.result (omega arith) r.1, (omega arith, omega arith)))

pub overflow_add-result : goal.overflow_add-result
overflow_add-result t c = omega (arith, turns.Wrote-most c.put_type.ensures (length_type (renumber c.args.place.now c.args.shift)) (laws.form_room _ _ _ _ c.requires.0 Array (sym c.form_of-f.ensures ∙ c.in-Array.is)).1)

pub copy-requires-in-Sized : goal.copy-requires-in-Sized
copy-requires-in-Sized t c = laws.form_room _ _ _ _ c.requires.0 Sized (sym c.form_of-f.ensures ∙ c.in-Sized.is)

pub returns-in-Simple : goal.returns-in-Simple
returns-in-Simple t c = laws.form_Wrote _ _ _ _ _ _ _ Simple (sym c.form_of-f.ensures ∙ c.in-Simple.is) c.copy.ensures

pub returns-in-Interface : goal.returns-in-Interface
returns-in-Interface t c = laws.form_Wrote _ _ _ _ _ _ _ Interface (sym c.form_of-f.ensures ∙ c.in-Interface.is) c.put_interface.ensures

pub returns-in-InterfaceIs : goal.returns-in-InterfaceIs
returns-in-InterfaceIs t c = laws.form_Wrote _ _ _ _ _ _ _ InterfaceIs (sym c.form_of-f.ensures ∙ c.in-InterfaceIs.is) c.copy-in-InterfaceIs.ensures

pub returns-in-Array : goal.returns-in-Array
returns-in-Array t c =
    let r = laws.form_room _ _ _ _ c.requires.0 Array (sym c.form_of-f.ensures ∙ c.in-Array.is) in
    laws.form_Wrote _ _ _ _ _ _ _ Array (sym c.form_of-f.ensures ∙ c.in-Array.is)
    (laws.array_Wrote _ _ _ _ c.args.out.now c.copy-n.new.out c.copy-n.result c.put_type.result c.put_type.new.out r.0.0 c.copy-n.ensures c.put_type.ensures)

pub returns-in-Sized : goal.returns-in-Sized
returns-in-Sized t c = laws.form_Wrote _ _ _ _ _ _ _ Sized (sym c.form_of-f.ensures ∙ c.in-Sized.is) c.copy-in-Sized.ensures
