-- The same text from three lists that hold the reports.
-- Assumes nothing.
use Rattle.std.specs.Prelude.{Bool, List, [], ◌++◌, ℕ, zero, suc, get_or}
use Rattle.listed.specs.Text.{shown, closing}
use Rattle.salvaging.specs.Text.{changed_line, numbers_line, in_one_line}

-- the lines of the first k reports
unfoldable pub list_lines : List ℕ → List ℕ → List ℕ → ℕ → List ℕ
list_lines indexes numbers places zero = []
list_lines indexes numbers places (suc k) = list_lines indexes numbers places k ++ numbers_line (get_or indexes k 0) (get_or numbers k 0) (get_or places k 0)

unfoldable pub list_text : Bool → ℕ → List ℕ → List ℕ → List ℕ → ℕ → List ℕ
list_text in_batch n indexes numbers places k =
    let one : Bool = in_one_line in_batch k in
    shown one (changed_line n k ++ list_lines indexes numbers places k) ++ closing one
