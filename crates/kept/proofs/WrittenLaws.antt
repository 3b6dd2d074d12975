-- The rows that a written file makes forgotten.
-- Assumes nothing.
use mathlib.Core.Path.{◌≡◌, refl, sym, ap, ◌∙◌}
use mathlib.Core.Bool.{Bool, true, false}
use mathlib.Core.List.{List}
use Prim.Native.Nat.{ℕ, zero, suc, ◌+◌, ◌-◌, ◌*◌, ◌<◌}
use native.Mathlib.Omega.{arith}
use native.Mathlib.Numerals.{add-one}
use lib.ListN.{length, get_or, take, drop, set, length-set}
use lib.Seq.{get_or-set_other}
use Rattle.number.proofs.Choice.{is_true, is_false, both}
use Rattle.number.proofs.Parts.{part_rest}
use Rattle.key.specs.Word.{same_word}
use Rattle.kept.specs.declared.Kept.{Kept}
use Rattle.kept.specs.Table.{Tidy}
use Rattle.kept.specs.Names.{forgotten_state, name_in, state_in}
use Rattle.paths.specs.Path.{last_part, ending}
use Rattle.kept.specs.Written.{same_ending, may_lead, forgotten}

-- two last parts, lent
pub endings : (path name : List ℕ) (i j : ℕ) {r : Bool} → i ≡ last_part path → j ≡ last_part name → r ≡ same_word (take (length path - i) (drop i path)) (take (length name - j) (drop j name)) → r ≡ same_ending path name
unfolding same_ending ending
endings path name i j e f g = rw (← e, ← f, ← part_rest path i, ← part_rest name j) g

module _ (path rows store : List ℕ) where
  -- ---- the table, number by number

  pub forgotten-length : (n : ℕ) → length (forgotten path rows store n) ≡ length rows
  unfolding forgotten
  forgotten-length zero = refl
  forgotten-length (suc k) =
      both (λ (t : List ℕ). length t ≡ length rows) (may_lead path rows store k) (set (forgotten path rows store k) (4 * k + 3) forgotten_state) (forgotten path rows store k)
      (λ _. simp length-set (forgotten-length k)) (λ _. forgotten-length k)

  -- a number that is not the state of one of the n rows
  pub forgotten_other : (n i : ℕ) → ((k : ℕ) → k < n → i ≡ 4 * k + 3 → ⊥) → get_or (forgotten path rows store n) i 0 ≡ get_or rows i 0
  unfolding forgotten
  forgotten_other zero i f = refl
  forgotten_other (suc k) i f =
      let ih = forgotten_other k i (λ j l. f j (omega arith)) in
      both (λ (t : List ℕ). get_or t i 0 ≡ get_or rows i 0) (may_lead path rows store k) (set (forgotten path rows store k) (4 * k + 3) forgotten_state) (forgotten path rows store k)
      (λ _. get_or-set_other (forgotten path rows store k) (4 * k + 3) i forgotten_state 0 (f k (omega arith)) ∙ ih) (λ _. ih)

  pub forgotten-Tidy : (kept : Kept) (n : ℕ) → Tidy rows kept → Tidy (forgotten path rows store n) kept
  forgotten-Tidy kept n t = record {
    whole = t.whole ∙ sym (forgotten-length n);
    few = t.few;
    room = t.room;
    inside = λ k l. rw (forgotten_other n (4 * k) (λ j a e. omega arith), forgotten_other n (4 * k + 1) (λ j a e. omega arith), forgotten_other n (4 * k + 2) (λ j a e. omega arith)) (t.inside k l);
  }

  -- row k and those after it are not touched by what is done to the rows before
  same_leads : (k : ℕ) → may_lead path (forgotten path rows store k) store k ≡ may_lead path rows store k
  unfolding may_lead state_in name_in
  same_leads k =
      rw (forgotten_other k (4 * k + 3) (λ j a e. omega arith), forgotten_other k (4 * k) (λ j a e. omega arith), forgotten_other k (4 * k + 1) (λ j a e. omega arith)) refl

  -- ---- the loop's turns

  pub forget_start : rows ≡ forgotten path rows store 0
  unfolding forgotten
  forget_start = refl

  pub forget_Tidy : (t : List ℕ) (k : ℕ) (kept : Kept) → t ≡ forgotten path rows store k → Tidy rows kept → Tidy t kept
  forget_Tidy t k kept e h = rw e (forgotten-Tidy kept k h)

  pub forget_done : (t : List ℕ) (k n : ℕ) → t ≡ forgotten path rows store k → k ≡ n → t ≡ forgotten path rows store n
  forget_done t k n e q = e ∙ ap (forgotten path rows store) q

  module _ (t : List ℕ) (k : ℕ) {r : Bool} (e : t ≡ forgotten path rows store k) (f : r ≡ may_lead path t store k) where
    leads : r ≡ may_lead path rows store k
    leads = f ∙ ap (λ (u : List ℕ). may_lead path u store k) e ∙ same_leads k

    pub forget_row : r ≡ true → set t (4 * k + 3) forgotten_state ≡ forgotten path rows store (k + 1)
    unfolding forgotten
    forget_row h = rw (add-one k) (is_true _ _ _ (sym leads ∙ h) (ap (λ (u : List ℕ). set u (4 * k + 3) forgotten_state) e))

    pub forget_none : r ≡ false → t ≡ forgotten path rows store (k + 1)
    unfolding forgotten
    forget_none h = rw (add-one k) (is_false _ _ _ (sym leads ∙ h) e)

pub ruleset forgets = (forget_start, forget_row, forget_none)
