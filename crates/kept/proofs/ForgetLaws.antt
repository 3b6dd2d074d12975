-- Once a file was written, no name that may lead to it is found, and every other is found as before.
-- Assumes nothing.
use mathlib.Core.Path.{◌≡◌, refl, sym, ap, ◌∙◌}
use mathlib.Core.Bool.{Bool, true, false}
use mathlib.Core.List.{List}
use mathlib.Core.Logic.{inl, inr}
use Prim.Native.Nat.{ℕ, zero, suc, ◌+◌, ◌*◌, ◌≤◌, ◌<◌}
use native.Mathlib.Omega.{arith}
use lib.ListN.{length, set}
use lib.Seq.{get_or-set_same, get_or-set_other}
use Rattle.number.specs.Choice.{◌=?◌}
use Rattle.number.specs.Scan.{scan}
use Rattle.number.proofs.Choice.{is_eq, no_eq, is_true, is_false, both, from_not_eq}
use Rattle.number.proofs.Scans.{below, clash, scan_found, scan_before, scan_is}
use Rattle.key.specs.Word.{same_word}
use Rattle.key.proofs.Orders.{same_word_lem, same_word_equal, other_word}
use Rattle.kept.specs.declared.Kept.{Kept}
use Rattle.kept.specs.Names.{link_state, forgotten_state, name_in, state_in, is_kept, row_of}
use Rattle.paths.specs.Path.{ending}
use Rattle.kept.specs.Written.{same_ending, may_lead, forgotten, Forgot}
use Rattle.kept.proofs.FileLaws.{found_no, from_found}
use Rattle.kept.proofs.WrittenLaws.{forgotten-length, forgotten_other}

-- a test holds or fails
either : {X : Type 0} (t : Bool) → (t ≡ true → X) → (t ≡ false → X) → X
either true f g = f refl
either false f g = g refl

-- ---- what a test tells

module _ (name rows store : List ℕ) (k : ℕ) where
  kept_says : is_kept name rows store k ≡ true → (state_in rows k ≡ forgotten_state → ⊥) × (name_in rows store k ≡ name)
  unfolding is_kept
  kept_says =
      both (λ (r : Bool). r ≡ true → (state_in rows k ≡ forgotten_state → ⊥) × (name_in rows store k ≡ name)) (state_in rows k =? forgotten_state) false (same_word (name_in rows store k) name)
      (λ _ e. clash false e refl)
      (λ t e. (from_not_eq (state_in rows k) forgotten_state t, same_word_equal (name_in rows store k) name e))

  gone : state_in rows k ≡ forgotten_state → is_kept name rows store k ≡ false
  unfolding is_kept
  gone e = sym (is_eq _ _ _ _ e refl)

  pub other_name : (name_in rows store k ≡ name → ⊥) → is_kept name rows store k ≡ false
  unfolding is_kept
  other_name f =
      both (λ (r : Bool). r ≡ false) (state_in rows k =? forgotten_state) false (same_word (name_in rows store k) name)
      (λ _. refl) (λ _. other_word (name_in rows store k) name f)

module _ (path rows store : List ℕ) (k : ℕ) where
  leads_same : ending path ≡ ending (name_in rows store k) → may_lead path rows store k ≡ true
  unfolding may_lead same_ending
  leads_same e =
      both (λ (r : Bool). r ≡ true) (state_in rows k =? link_state) true (same_word (ending path) (ending (name_in rows store k)))
      (λ _. refl) (λ _. same_word_lem (ending path) (ending (name_in rows store k)) e)

  leads_not : (state_in rows k ≡ link_state → ⊥) → (ending path ≡ ending (name_in rows store k) → ⊥) → may_lead path rows store k ≡ false
  unfolding may_lead same_ending
  leads_not f g = sym (no_eq _ _ _ _ f (sym (other_word (ending path) (ending (name_in rows store k)) g)))

-- ---- the rows afterwards

module _ (path rows store : List ℕ) where
  after_yes : (k : ℕ) → may_lead path rows store k ≡ true → forgotten path rows store (suc k) ≡ set (forgotten path rows store k) (4 * k + 3) forgotten_state
  unfolding forgotten
  after_yes k e = sym (is_true _ _ _ e refl)

  after_no : (k : ℕ) → may_lead path rows store k ≡ false → forgotten path rows store (suc k) ≡ forgotten path rows store k
  unfolding forgotten
  after_no k e = sym (is_false _ _ _ e refl)

  -- what is done to row m changes no other
  after_other : (m k : ℕ) → k < m → state_in (forgotten path rows store (suc m)) k ≡ state_in (forgotten path rows store m) k
  unfolding state_in
  after_other m k l = either (may_lead path rows store m)
      (λ t. rw (after_yes m t) (get_or-set_other (forgotten path rows store m) (4 * m + 3) (4 * k + 3) forgotten_state 0 (λ e. omega arith)))
      (λ t. rw (after_no m t) refl)

  pub state_forgotten : (n k : ℕ) → 4 * n ≤ length rows → k < n → may_lead path rows store k ≡ true → state_in (forgotten path rows store n) k ≡ forgotten_state
  unfolding state_in
  state_forgotten zero k h l e = absurd (omega arith)
  state_forgotten (suc m) k h l e = elim (below k m (omega arith)) [
    | inl q ↦
        let f : may_lead path rows store m ≡ true = ap (may_lead path rows store) (sym q) ∙ e in
        rw (q, after_yes m f) (get_or-set_same (forgotten path rows store m) (4 * m + 3) forgotten_state 0 (omega (arith, forgotten-length path rows store m)))
    | inr q ↦ after_other m k q ∙ state_forgotten m k (omega arith) q e
  ]

  pub state_stays : (n k : ℕ) → k < n → may_lead path rows store k ≡ false → state_in (forgotten path rows store n) k ≡ state_in rows k
  unfolding state_in
  state_stays zero k l e = absurd (omega arith)
  state_stays (suc m) k l e = elim (below k m (omega arith)) [
    | inl q ↦
        let f : may_lead path rows store m ≡ false = ap (may_lead path rows store) (sym q) ∙ e in
        rw (q, after_no m f) (forgotten_other path rows store m (4 * m + 3) (λ j a z. omega arith))
    | inr q ↦ after_other m k q ∙ state_stays m k q e
  ]

  pub name_stays : (n k : ℕ) → name_in (forgotten path rows store n) store k ≡ name_in rows store k
  unfolding name_in
  name_stays n k = rw (forgotten_other path rows store n (4 * k) (λ j a z. omega arith), forgotten_other path rows store n (4 * k + 1) (λ j a z. omega arith)) refl

-- ---- what is found afterwards

module _ (name path rows store : List ℕ) (n : ℕ) (room : 4 * n ≤ length rows) where
  row_gone : (k : ℕ) → k < n → may_lead path rows store k ≡ true → is_kept name (forgotten path rows store n) store k ≡ false
  row_gone k l e = gone name (forgotten path rows store n) store k (state_forgotten path rows store n k room l e)

  row_stays : (k : ℕ) → k < n → may_lead path rows store k ≡ false → is_kept name (forgotten path rows store n) store k ≡ is_kept name rows store k
  unfolding is_kept
  row_stays k l e = rw (state_stays path rows store n k l e, name_stays path rows store n k) refl

  -- no name with the last part of the path
  pub forgotten_none : ending name ≡ ending path → row_of name (forgotten path rows store n) store n ≡ n
  unfolding row_of
  forgotten_none e =
      scan_is (is_kept name (forgotten path rows store n) store) n 0 n (omega arith) (omega arith) (λ l. absurd (omega arith))
      (λ j a b. either (may_lead path rows store j)
      (λ t. row_gone j b t)
      (λ t. other_name name (forgotten path rows store n) store j (λ q. clash (may_lead path rows store j) (leads_same path rows store j (sym e ∙ ap ending (sym q ∙ name_stays path rows store n j))) t)))

  -- what is found may not lead to the file
  pub forgotten_apart : row_of name (forgotten path rows store n) store n < n → may_lead path rows store (row_of name (forgotten path rows store n) store n) ≡ false
  unfolding row_of
  forgotten_apart h =
      let r = scan (is_kept name (forgotten path rows store n) store) n 0 in
      either (may_lead path rows store r)
      (λ t. clash (is_kept name (forgotten path rows store n) store r) (scan_found (is_kept name (forgotten path rows store n) store) n 0 (omega arith)) (row_gone r h t))
      (λ t. t)

  -- a name with another last part, which is no symbolic link
  pub forgotten_keeps : row_of name rows store n < n → (ending name ≡ ending path → ⊥) → (state_in rows (row_of name rows store n) ≡ link_state → ⊥) → row_of name (forgotten path rows store n) store n ≡ row_of name rows store n
  unfolding row_of
  forgotten_keeps h f g =
      let r = scan (is_kept name rows store) n 0 in
      let y : is_kept name rows store r ≡ true = scan_found (is_kept name rows store) n 0 (omega arith) in
      let w = kept_says name rows store r y in
      scan_is (is_kept name (forgotten path rows store n) store) n 0 r (omega arith) (omega arith)
      (λ _. row_stays r h (leads_not path rows store r g (λ q. f (sym (ap ending w.1) ∙ sym q))) ∙ y)
      (λ j a b. either (may_lead path rows store j)
      (λ t. row_gone j (omega arith) t)
      (λ t. row_stays j (omega arith) t ∙ scan_before (is_kept name rows store) n 0 j a b))

-- a reader's words for the two
pub forgot : (path : List ℕ) (kept : Kept) (rows store table : List ℕ) → 4 * kept.rows ≤ length rows → table ≡ forgotten path rows store kept.rows → Forgot path kept rows store table
forgot path kept rows store table h e = rw e (record {
  none = λ name q. found_no name kept (forgotten path rows store kept.rows) store (forgotten_none name path rows store kept.rows h q);
  apart = λ name q. forgotten_apart name path rows store kept.rows h (from_found name kept (forgotten path rows store kept.rows) store q);
})
