-- Every path of a file, by its verdict.
-- Assumes nothing.
use Rattle.std.specs.Prelude.{Err, Ok, Result, ℕ}
use mathlib.Core.Path.{◌≡◌}
use mathlib.Core.Bool.{Bool}
use mathlib.Core.List.{List}
use Prim.Native.Nat.{ℕ}
use Rattle.reading.specs.declared.Refusal.{Refusal}
use Rattle.said.specs.declared.Said.{Said}
use Rattle.said.specs.declared.Why.TheVariants.{Refused}
use Rattle.said.specs.Texts.{refused_line}
use Rattle.said.specs.Saying.{Says, saying, verdict_why}
use Rattle.rdb_interface.specs.declared.SetCount.{SetCount}
use Rattle.rdb_file.specs.File.{read_file, verdict_of}
use Rattle.rdb.proofs.AnswerLaws.{accepted, refused, Checked-file}
use Rattle.streamed.specs.declared.Begun.{Begun}
use Rattle.streamed.specs.Stream.{spoken, paths, Opens}
use Rattle.streamed.proofs.StreamLaws.{said_Opens, paths-Opens}
use Rattle.rdb_questions.specs.Lines.{paths_answer, paths_saying}

module _ (m : SetCount) (s before : List ℕ) {v : Result ℕ Refusal} {r : Begun} (h : v ≡ verdict_of (read_file m s)) where
  pub list_accepted : {n : ℕ} → v ≡ Ok n → r ≡ paths → (b : Bool) → Opens b (paths_saying b m s) s before r before
  unfolding paths_saying paths_answer verdict_of verdict_why
  list_accepted q e b = let a = accepted (read_file m s) q h in rw a.2 (paths-Opens b s before (Checked-file m s h q) e)

  pub list-refused : (said : Said) {why : Refusal} {after : List ℕ} → v ≡ Err why → Says (saying (refused_line why) (Refused why)) before said after → r ≡ spoken said → (b : Bool) → Opens b (paths_saying b m s) s before r after
  unfolding paths_saying paths_answer verdict_of verdict_why
  list-refused said {why} {after} q g e b = rw (refused (read_file m s) q h) (said_Opens b _ s before after said g e)
