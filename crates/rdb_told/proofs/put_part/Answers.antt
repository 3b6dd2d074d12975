-- `rdb_told::put_part` meets its contract.
-- Assumes nothing.
use Rattle.number.proofs.Tools.{subst}
use Rattle.rdb_parts.specs.declared.PartAnswer.{PartAnswer}
use Rattle.rdb_told.specs.Told.{part_text, Small}
use Rattle.rdb_told.proofs.put_part.Goals as goal

pub put_alone-requires : goal.put_alone-requires
unfolding part_text
put_alone-requires c = subst (λ (x : PartAnswer). Small c.args.file.now x) c.in-Text.is c.requires

pub put_entry-requires : goal.put_entry-requires
unfolding part_text
put_entry-requires c = subst (λ (x : PartAnswer). Small c.args.file.now x) c.in-Entry.is c.requires

pub put_member-requires : goal.put_member-requires
unfolding part_text
put_member-requires c = subst (λ (x : PartAnswer). Small c.args.file.now x) c.in-Member.is c.requires

pub put_typed-requires : goal.put_typed-requires
unfolding part_text
put_typed-requires c = subst (λ (x : PartAnswer). Small c.args.file.now x) c.in-Typed.is c.requires

pub put_method-requires : goal.put_method-requires
unfolding part_text
put_method-requires c = subst (λ (x : PartAnswer). Small c.args.file.now x) c.in-Method.is c.requires

pub returns-in-Text : goal.returns-in-Text
unfolding part_text
returns-in-Text c = rw c.in-Text.is c.put_alone.ensures

pub returns-in-Entry : goal.returns-in-Entry
unfolding part_text
returns-in-Entry c = rw c.in-Entry.is c.put_entry.ensures

pub returns-in-Member : goal.returns-in-Member
unfolding part_text
returns-in-Member c = rw c.in-Member.is c.put_member.ensures

pub returns-in-Typed : goal.returns-in-Typed
unfolding part_text
returns-in-Typed c = rw c.in-Typed.is c.put_typed.ensures

pub returns-in-Method : goal.returns-in-Method
unfolding part_text
returns-in-Method c = rw c.in-Method.is c.put_method.ensures

pub returns-in-None : goal.returns-in-None
unfolding part_text
returns-in-None c = rw c.in-None.is c.put_bytes.ensures

pub returns-in-Refused : goal.returns-in-Refused
unfolding part_text
returns-in-Refused c = rw c.in-Refused.is c.put_refused.ensures
