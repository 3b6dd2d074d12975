use Rattle.std.proofs.Common.{refl, sym, ◌∙◌, arith}
use Rattle.store.proofs.LoadLaws.{same_kept, is_there, not_there, Loads-as}
use Rattle.store.proofs.load.Goals as goal

pub returns-then-is_barred : goal.returns-then-is_barred
returns-then-is_barred c = same_kept _ _ _ _ _ c.requires.0 _ _ refl (sym c.is_barred.ensures ∙ c.if-is_barred.true)

pub returns-then-row_of-kept : goal.returns-then-row_of-kept
returns-then-row_of-kept c = is_there _ _ _ _ _ c.requires.0 (sym c.is_barred.ensures ∙ c.if-is_barred.false) c.row_of.ensures.1 c.if-row_of-kept.true

pub returns-then-name-gt-LIMIT : goal.returns-then-name-gt-LIMIT
returns-then-name-gt-LIMIT c = same_kept _ _ _ _ _ c.requires.0 _ _ refl (sym c.is_barred.ensures ∙ c.if-is_barred.false)

pub read_in-requires : goal.read_in-requires
read_in-requires c = (c.requires.0, (c.requires.1, (not_there _ _ _ _ c.row_of.ensures.1 c.row_of.ensures.0 c.if-row_of-kept.false, omega arith)))

pub returns : goal.returns
returns c = Loads-as _ _ _ _ _ _ _ (sym c.if-is_barred.false ∙ c.is_barred.ensures) c.read_in.ensures
