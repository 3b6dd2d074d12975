-- What the answer to `salvage FILE OUT` promises.
-- Assumes nothing.
use Rattle.std.specs.Prelude.{◌≡◌, Bool, List, ℕ}
use Rattle.said.specs.Saying.{Says}
use Rattle.salvaging.specs.declared.Told.{Told}
use Rattle.salvaging.specs.Text.{salvage_saying, salvage_answer, salvage_buffer}

-- of the file s, with the output buffer and the text as they were and as they are afterwards
pub record Tells (in_batch : Bool) (s out text : List ℕ) (r : Told) (out_after text_after : List ℕ) : Type 0 where
  pub said : Says (salvage_saying in_batch s out) text r.said text_after
  pub done : r.done ≡ salvage_answer s out
  pub output : out_after ≡ salvage_buffer s out
