-- `salvage::behind::salvage_left` meets its contract.
-- Assumes nothing.
use Rattle.salvage.proofs.Lefts.{judged_Parents, directory_low, long_lists, ends_ready, ends_refused, ends_written}
use Rattle.typelib.proofs.FrontLaws.{fronted_header}
use Rattle.salvage.specs.Salvage.{Lent}
use Rattle.number.proofs.Tools.{arith}
use Rattle.salvage.proofs.behind.salvage_left.Goals as goal

pub normalise_accepted-requires : goal.normalise_accepted-requires
normalise_accepted-requires c = let e = c.mend_copy.ensures in let l : Lent = record { indexes = c.args.indexes.now; numbers = c.args.numbers.now; places = c.args.places.now; out = c.args.out.now } in ends_ready _ _ c.requires.0 _ c.requires.1 c.requires.3 l c.requires.4 (record { small = λ i. omega (arith, c.type_inv.file i) }) _ _ _ e.0 _ e.1

pub put_reports-changed-requires : goal.put_reports-changed-requires
put_reports-changed-requires c = let e = c.mend_copy.ensures in let q = long_lists _ _ _ c.requires.4 in ((fronted_header _ _ c.requires.0).few, directory_low _ _ c.requires.0, e.2, e.3, e.4, judged_Parents _ _ c.requires.0 _ _ _ e.0, q.0, q.1, q.2)

pub returns-in-Ok : goal.returns-in-Ok
returns-in-Ok c = let e = c.mend_copy.ensures in let l : Lent = record { indexes = c.args.indexes.now; numbers = c.args.numbers.now; places = c.args.places.now; out = c.args.out.now } in ends_written _ _ c.requires.0 _ c.requires.1 c.requires.3 l c.requires.4 (record { small = λ i. omega (arith, c.type_inv.file i) }) _ _ _ e.0 _ e.1 _ _ c.normalise_accepted.ensures.0 c.normalise_accepted.ensures.1 c.in-Ok.is c.put_reports-changed.ensures.0 c.put_reports-changed.ensures.1 c.put_reports-changed.ensures.2 c.put_reports-changed.ensures.3

pub returns-in-Err : goal.returns-in-Err
returns-in-Err c = let e = c.mend_copy.ensures in let l : Lent = record { indexes = c.args.indexes.now; numbers = c.args.numbers.now; places = c.args.places.now; out = c.args.out.now } in ends_refused _ _ c.requires.0 _ c.requires.1 c.requires.3 l c.requires.4 (record { small = λ i. omega (arith, c.type_inv.file i) }) _ _ _ e.0 _ e.1 _ c.normalise_accepted.ensures.0 c.normalise_accepted.ensures.1 c.in-Err.is
