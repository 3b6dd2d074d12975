-- A file that was added is found under its name, and the files before it still are, with their bytes. It was read behind the used part
-- of the store, which stayed as it was.
-- Assumes nothing.
use mathlib.Core.Path.{◌≡◌, refl, sym, ap, ◌∙◌}
use mathlib.Core.Bool.{true, false}
use mathlib.Core.List.{List}
use mathlib.Core.Logic.{inl, inr}
use Prim.Native.Nat.{ℕ, ◌+◌, ◌*◌, ◌≤◌, ◌<◌}
use native.Mathlib.Omega.{arith}
use lib.ListN.{length, get_or, take, drop}
use lib.Seq.{take-take}
use Rattle.number.specs.Scan.{scan}
use Rattle.number.specs.Part.{part}
use Rattle.number.proofs.Choice.{no_eq}
use Rattle.number.proofs.Scans.{below, scan_found, scan_before, scan_is, some_no, none_found}
use Rattle.key.proofs.Orders.{same_word_lem}
use Rattle.words.specs.declared.Span.{Span}
use Rattle.kept.specs.declared.Kept.{Kept}
use Rattle.kept.specs.Table.{Tidy}
use Rattle.kept.specs.Names.{forgotten_state, name_in, state_in, is_kept, row_of, row_added, one_more}
use Rattle.kept.specs.Files.{bytes_in, is_found, file_of, KeptOn}
use Rattle.kept.proofs.RowLaws.{added_other, added_from, added_bytes, added_end, added_state}
use Rattle.kept.proofs.FileLaws.{found_yes, from_found, from_lost}
use Rattle.kept.proofs.ForgetLaws.{other_name}

-- a part of the bytes that stayed
same_part : (s t : List ℕ) (n i j : ℕ) → j ≤ n → take n s ≡ take n t → part s i j ≡ part t i j
unfolding part
same_part s t n i j h e = ap (drop i) (sym (take-take j n s h) ∙ ap (take j) e ∙ take-take j n t h)

-- ---- the rows that there were

module _ (kept : Kept) (rows before table store : List ℕ) (tidy : Tidy rows kept) (same : (i : ℕ) → i < 4 * kept.rows → get_or table i 0 ≡ get_or rows i 0) (stayed : take kept.used store ≡ take kept.used before) where
  same_name : (k : ℕ) → k < kept.rows → name_in table store k ≡ name_in rows before k
  unfolding name_in
  same_name k l =
      let i = tidy.inside k l in
      rw (same (4 * k) (omega arith), same (4 * k + 1) (omega arith))
      (same_part store before kept.used (get_or rows (4 * k) 0) (get_or rows (4 * k + 1) 0) (omega arith) stayed)

  same_bytes : (k : ℕ) → k < kept.rows → bytes_in table store k ≡ bytes_in rows before k
  unfolding bytes_in
  same_bytes k l =
      let i = tidy.inside k l in
      rw (same (4 * k + 1) (omega arith), same (4 * k + 2) (omega arith))
      (same_part store before kept.used (get_or rows (4 * k + 1) 0) (get_or rows (4 * k + 2) 0) (omega arith) stayed)

  pub same_row : (name : List ℕ) (k : ℕ) → k < kept.rows → is_kept name table store k ≡ is_kept name rows before k
  unfolding is_kept state_in
  same_row name k l = rw (same (4 * k + 3) (omega arith), same_name k l) refl

  -- a file that was kept before, with rows behind it
  pub same_place : (name : List ℕ) (n : ℕ) → kept.rows ≤ n → row_of name rows before kept.rows < kept.rows → row_of name table store n ≡ row_of name rows before kept.rows
  unfolding row_of
  same_place name n g h =
      scan_is (is_kept name table store) n 0 (scan (is_kept name rows before) kept.rows 0) (omega arith) (omega arith)
      (λ _. same_row name (scan (is_kept name rows before) kept.rows 0) h ∙ scan_found (is_kept name rows before) kept.rows 0 (omega arith))
      (λ j a b. same_row name j (omega arith) ∙ scan_before (is_kept name rows before) kept.rows 0 j a b)

  pub keeps_files : (after : Kept) → kept.rows ≤ after.rows → KeptOn kept rows before after table store
  unfolding file_of
  keeps_files after g = record {
    found = λ name e.
        let h = from_found name kept rows before e in
        found_yes name after table store (omega (arith, same_place name after.rows g h));
    bytes = λ name e.
        let h = from_found name kept rows before e in
        ap (bytes_in table store) (same_place name after.rows g h) ∙ same_bytes (row_of name rows before kept.rows) h;
  }

  -- a file that was not kept, and is not the one in a row more
  pub still_lost : (name : List ℕ) (after : Kept) → after.rows ≤ kept.rows + 1 → (kept.rows < after.rows → is_kept name table store kept.rows ≡ false) → is_found name kept rows before ≡ false → is_found name after table store ≡ false
  unfolding is_found
  still_lost name after g f e =
      some_no (is_kept name table store) after.rows (λ j l. elim (below j kept.rows (omega arith)) [
        | inl q ↦ ap (is_kept name table store) q ∙ f (omega arith)
        | inr q ↦ same_row name j q ∙ none_found (is_kept name rows before) kept.rows j e q
      ])

-- ---- the row that was added

module _ (name : List ℕ) (state : ℕ) (file : Span) (kept : Kept) (rows before store : List ℕ) (room : 4 * kept.rows + 3 < length rows) (tidy : Tidy rows kept) (stayed : take kept.used store ≡ take kept.used before) where
  new_name : name_in (row_added state file kept rows) store kept.rows ≡ part store kept.used file.from
  unfolding name_in
  new_name = rw (added_from state file kept rows room, added_bytes state file kept rows room) refl

  new_bytes_lem : bytes_in (row_added state file kept rows) store kept.rows ≡ part store file.from file.end
  unfolding bytes_in
  new_bytes_lem = rw (added_bytes state file kept rows room, added_end state file kept rows room) refl

  new_row : (state ≡ forgotten_state → ⊥) → name ≡ part store kept.used file.from → is_kept name (row_added state file kept rows) store kept.rows ≡ true
  unfolding is_kept state_in
  new_row f e =
      let s = added_state state file kept rows room in
      sym (no_eq _ _ _ _ (λ q. f (sym s ∙ q)) (sym (same_word_lem (name_in (row_added state file kept rows) store kept.rows) name (new_name ∙ sym e))))

  -- the new file, where none was kept under its name
  module _ (f : state ≡ forgotten_state → ⊥) (e : name ≡ part store kept.used file.from) (lost : is_found name kept rows before ≡ false) where
    pub added_place : row_of name (row_added state file kept rows) store (kept.rows + 1) ≡ kept.rows
    unfolding row_of
    added_place =
        scan_is (is_kept name (row_added state file kept rows) store) (kept.rows + 1) 0 kept.rows (omega arith) (omega arith)
        (λ _. new_row f e)
        (λ j a b. same_row kept rows before (row_added state file kept rows) store tidy (added_other state file kept rows) stayed name j b ∙ scan_before (is_kept name rows before) kept.rows 0 j a (omega (arith, from_lost name kept rows before lost)))

    pub added_found : is_found name (one_more file kept) (row_added state file kept rows) store ≡ true
    unfolding one_more
    added_found = found_yes name (record { rows = kept.rows + 1; used = file.end }) (row_added state file kept rows) store (omega (arith, added_place))

    pub added_file : file_of name (one_more file kept) (row_added state file kept rows) store ≡ part store file.from file.end
    unfolding one_more file_of
    added_file = ap (bytes_in (row_added state file kept rows) store) added_place ∙ new_bytes_lem

  -- a name that is not its own
  pub added_others : name ≡ part store kept.used file.from → (other : List ℕ) → (other ≡ name → ⊥) → is_found other kept rows before ≡ false → is_found other (one_more file kept) (row_added state file kept rows) store ≡ false
  unfolding one_more
  added_others e other d lost =
      still_lost kept rows before (row_added state file kept rows) store tidy (added_other state file kept rows) stayed other (record { rows = kept.rows + 1; used = file.end }) (omega arith)
      (λ _. other_name other (row_added state file kept rows) store kept.rows (λ q. d (sym q ∙ new_name ∙ sym e))) lost

  -- the files that were kept before
  pub added_keeps : KeptOn kept rows before (one_more file kept) (row_added state file kept rows) store
  unfolding one_more
  added_keeps = keeps_files kept rows before (row_added state file kept rows) store tidy (added_other state file kept rows) stayed (record { rows = kept.rows + 1; used = file.end }) (omega arith)
