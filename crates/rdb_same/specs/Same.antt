-- Both readings of a file give the same verdict and the same answers.
-- Assumes nothing.
use Rattle.std.specs.Prelude.{◌≡◌, List, ℕ}
use Rattle.rdb_interface.specs.declared.SetCount.TheVariants.{Always, UnlessReadOnly}
use Rattle.rdb_file.specs.File.{read_file, verdict_of}
use Rattle.rdb.specs.Questions.{ask_entity, ask_constant}
use Rattle.rdb_parts.specs.declared.Part.{Part}
use Rattle.rdb_parts.specs.declared.Inner.{Inner}
use Rattle.rdb_parts.specs.Parts.{ask_part, ask_inner}

pub record SameReadings (s : List ℕ) : Type 0 where
  pub check : verdict_of (read_file Always s) ≡ verdict_of (read_file UnlessReadOnly s)
  pub entity : (path : List ℕ) → ask_entity (read_file Always s) s path ≡ ask_entity (read_file UnlessReadOnly s) s path
  pub constant : (path : List ℕ) → ask_constant (read_file Always s) s path ≡ ask_constant (read_file UnlessReadOnly s) s path
  pub part : (path : List ℕ) (which : Part) (i : ℕ) → ask_part Always (read_file Always s) s path which i ≡ ask_part UnlessReadOnly (read_file UnlessReadOnly s) s path which i
  pub inner : (path : List ℕ) (which : Inner) (i j : ℕ) → ask_inner Always (read_file Always s) s path which i j ≡ ask_inner UnlessReadOnly (read_file UnlessReadOnly s) s path which i j
