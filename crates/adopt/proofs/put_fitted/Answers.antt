-- `adopt::put_fitted` meets its contract.
-- Assumes nothing.
use Rattle.std.specs.Prelude.{◌≡◌, ◌+◌}
use Rattle.number.proofs.Tools.{arith, length}
use Rattle.adopt.specs.Adopt.{moved_bytes}
use Rattle.adopt.proofs.Stored.{length_moved}
use Rattle.adopt.proofs.Answers as answers
use Rattle.adopt.proofs.put_fitted.Goals as goal

pub returns-then-size-gt-FILE_LIMIT : goal.returns-then-size-gt-FILE_LIMIT
returns-then-size-gt-FILE_LIMIT c =
    let a = c.args in
    let bytes = moved_bytes a.file.now a.cut a.z a.directory in
    let e : length bytes ≡ length a.file.now + a.z = length_moved a.file.now a.z a.directory (omega arith) a.cut (omega arith) (omega arith) in
    rw c.at.ensures (answers.too_long_lem bytes (length a.file.now + a.z) e a.out.now (omega arith))

pub returns-then-out-size : goal.returns-then-out-size
returns-then-out-size c =
    let a = c.args in
    let bytes = moved_bytes a.file.now a.cut a.z a.directory in
    let e : length bytes ≡ length a.file.now + a.z = length_moved a.file.now a.z a.directory (omega arith) a.cut (omega arith) (omega arith) in
    rw c.at-then-out-size.ensures (answers.no_room bytes (length a.file.now + a.z) e a.out.now (omega arith) (omega arith))

pub returns : goal.returns
returns c =
    let a = c.args in
    let bytes = moved_bytes a.file.now a.cut a.z a.directory in
    let e : length bytes ≡ length a.file.now + a.z = length_moved a.file.now a.z a.directory (omega arith) a.cut (omega arith) (omega arith) in
    answers.fits bytes (length a.file.now + a.z) e a.out.now (omega arith) (omega arith) c.put_moved.ensures
