-- The bytes that are kept under a name.
-- Assumes nothing.
use mathlib.Core.Path.{◌≡◌, refl, sym, ◌∙◌}
use mathlib.Core.Bool.{true, false}
use mathlib.Core.List.{List, []}
use Prim.Native.Nat.{ℕ, ◌+◌, ◌*◌, ◌<◌}
use native.Mathlib.Omega.{arith}
use lib.ListN.{get_or}
use Rattle.number.specs.Scan.{some}
use Rattle.number.specs.Part.{part}
use Rattle.number.proofs.Choice.{is_true, is_false, yes_lt, not_lt, from_yes_lt, from_not_lt}
use Rattle.number.proofs.Parts.{part_none}
use Rattle.number.proofs.Scans.{scan_range}
use Rattle.kept.specs.declared.Kept.{Kept}
use Rattle.kept.specs.Names.{is_kept, row_of}
use Rattle.kept.specs.Files.{bytes_in, is_found, file_of, kept_file, KeptOn}

module _ (name : List ℕ) (kept : Kept) (rows store : List ℕ) where
  -- ---- a file is found where a row is

  pub found_yes : row_of name rows store kept.rows < kept.rows → is_found name kept rows store ≡ true
  unfolding is_found some row_of
  found_yes h = yes_lt _ _ h

  pub found_no : row_of name rows store kept.rows ≡ kept.rows → is_found name kept rows store ≡ false
  unfolding is_found some row_of
  found_no h = not_lt _ _ (omega arith)

  pub from_found : is_found name kept rows store ≡ true → row_of name rows store kept.rows < kept.rows
  unfolding is_found some row_of
  from_found e = from_yes_lt _ _ e

  pub from_lost : is_found name kept rows store ≡ false → row_of name rows store kept.rows ≡ kept.rows
  unfolding is_found some row_of
  from_lost e = omega (arith, from_not_lt _ _ e, scan_range (is_kept name rows store) kept.rows 0)

  -- ---- its bytes

  pub file_found : is_found name kept rows store ≡ true → kept_file name kept rows store ≡ file_of name kept rows store
  unfolding kept_file
  file_found e = sym (is_true _ _ _ e refl)

  pub file_lost : is_found name kept rows store ≡ false → kept_file name kept rows store ≡ []
  unfolding kept_file
  file_lost e = sym (is_false _ _ _ e refl)

  -- the row that the code looked up
  module _ {k : ℕ} (e : k ≡ row_of name rows store kept.rows) where
    pub row_file : {i j : ℕ} → k < kept.rows → i ≡ get_or rows (4 * k + 1) 0 → j ≡ get_or rows (4 * k + 2) 0 → part store i j ≡ kept_file name kept rows store
    unfolding file_of bytes_in
    row_file h p q = rw (p, q, e) (sym (file_found (found_yes (omega arith))))

    pub no_file : k ≡ kept.rows → part store 0 0 ≡ kept_file name kept rows store
    no_file h = part_none store 0 0 (omega arith) ∙ sym (file_lost (found_no (sym e ∙ h)))

-- a file that is kept on has the bytes that it had
pub kept_file_lem : (kept : Kept) (rows store : List ℕ) (after : Kept) (table text : List ℕ) → KeptOn kept rows store after table text → (name : List ℕ) → is_found name kept rows store ≡ true → kept_file name after table text ≡ kept_file name kept rows store
kept_file_lem kept rows store after table text k name e =
    file_found name after table text (k.found name e) ∙ k.bytes name e ∙ sym (file_found name kept rows store e)
