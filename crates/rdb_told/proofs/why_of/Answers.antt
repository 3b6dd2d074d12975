-- `rdb_told::why_of` meets its contract.
-- Assumes nothing.
use Rattle.number.proofs.Tools.{refl}
use Rattle.rdb_told.specs.Told.{part_why}
use Rattle.rdb_told.proofs.why_of.Goals as goal

pub returns-in-Text : goal.returns-in-Text
unfolding part_why
returns-in-Text c = rw c.in-Text.is refl

pub returns-in-Entry : goal.returns-in-Entry
unfolding part_why
returns-in-Entry c = rw c.in-Entry.is refl

pub returns-in-Member : goal.returns-in-Member
unfolding part_why
returns-in-Member c = rw c.in-Member.is refl

pub returns-in-Typed : goal.returns-in-Typed
unfolding part_why
returns-in-Typed c = rw c.in-Typed.is refl

pub returns-in-Method : goal.returns-in-Method
unfolding part_why
returns-in-Method c = rw c.in-Method.is refl

pub returns-in-None : goal.returns-in-None
unfolding part_why
returns-in-None c = rw c.in-None.is refl

pub returns-in-Refused : goal.returns-in-Refused
unfolding part_why
returns-in-Refused c = rw c.in-Refused.is refl
