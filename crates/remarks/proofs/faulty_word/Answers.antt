-- `remarks::faulty_word` meets its contract.
-- Assumes nothing.
use Rattle.number.proofs.Tools.{refl}
use Rattle.remarks.specs.Words.{faulty_word}
use Rattle.remarks.proofs.faulty_word.Goals as goal

pub returns-in-Check : goal.returns-in-Check
unfolding faulty_word
returns-in-Check c = rw c.in-Check.is refl

pub returns-in-Iid : goal.returns-in-Iid
unfolding faulty_word
returns-in-Iid c = rw c.in-Iid.is refl

pub returns-in-Looks : goal.returns-in-Looks
unfolding faulty_word
returns-in-Looks c = rw c.in-Looks.is refl

pub returns-in-Key : goal.returns-in-Key
unfolding faulty_word
returns-in-Key c = rw c.in-Key.is c.name_or.ensures

pub returns-in-Method : goal.returns-in-Method
unfolding faulty_word
returns-in-Method c = rw c.in-Method.is c.name_or-in-Method.ensures

pub returns-in-Slot : goal.returns-in-Slot
unfolding faulty_word
returns-in-Slot c = rw c.in-Slot.is refl

pub returns-in-Constant : goal.returns-in-Constant
unfolding faulty_word
returns-in-Constant c = rw c.in-Constant.is c.name_or-in-Constant.ensures
