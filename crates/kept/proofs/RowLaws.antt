-- The numbers of the table once a row was added, and that its rows lie in the store.
-- Assumes nothing.
use mathlib.Core.Path.{◌≡◌, sym, ◌∙◌}
use mathlib.Core.List.{List}
use mathlib.Core.Logic.{inl, inr}
use Prim.Native.Nat.{ℕ, ◌+◌, ◌*◌, ◌≤◌, ◌<◌}
use native.Mathlib.Omega.{arith}
use lib.ListN.{length, get_or, set, length-set}
use lib.Seq.{get_or-set_same, get_or-set_other}
use Rattle.number.proofs.Scans.{below}
use Rattle.words.specs.declared.Span.{Span}
use Rattle.kept.specs.declared.Kept.{Kept}
use Rattle.kept.specs.Table.{Tidy}
use Rattle.kept.specs.Names.{row_set, row_added, one_more}
use Rattle.kept.specs.Room.{store_bytes, nothing_kept}

pub Tidy-nothing : (rows : List ℕ) → 256 ≡ length rows → Tidy rows nothing_kept
Tidy-nothing rows e = record { whole = e; few = omega arith; room = omega arith; inside = λ k h. absurd (omega arith) }

-- ---- four numbers set

module _ (t : List ℕ) (i a b c d : ℕ) where
  one : List ℕ
  one = set t i a

  two : List ℕ
  two = set one (i + 1) b

  three : List ℕ
  three = set two (i + 2) c

  long_two : length two ≡ length t
  unfolding one two
  long_two = simp length-set

  long_three : length three ≡ length t
  unfolding one two three
  long_three = simp length-set

  pub row_length : length (row_set t i a b c d) ≡ length t
  unfolding row_set
  row_length = simp length-set

  pub row_other : (j : ℕ) → j < i → get_or (row_set t i a b c d) j 0 ≡ get_or t j 0
  unfolding row_set one two three
  row_other j h =
      get_or-set_other three (i + 3) j d 0 (λ e. omega arith)
      ∙ get_or-set_other two (i + 2) j c 0 (λ e. omega arith)
      ∙ get_or-set_other one (i + 1) j b 0 (λ e. omega arith)
      ∙ get_or-set_other t i j a 0 (λ e. omega arith)

  module _ (h : i + 3 < length t) where
    pub row_from : get_or (row_set t i a b c d) i 0 ≡ a
    unfolding row_set one two three
    row_from =
        get_or-set_other three (i + 3) i d 0 (λ e. omega arith)
        ∙ get_or-set_other two (i + 2) i c 0 (λ e. omega arith)
        ∙ get_or-set_other one (i + 1) i b 0 (λ e. omega arith)
        ∙ get_or-set_same t i a 0 (omega arith)

    pub row_bytes : get_or (row_set t i a b c d) (i + 1) 0 ≡ b
    unfolding row_set one two three
    row_bytes =
        get_or-set_other three (i + 3) (i + 1) d 0 (λ e. omega arith)
        ∙ get_or-set_other two (i + 2) (i + 1) c 0 (λ e. omega arith)
        ∙ get_or-set_same one (i + 1) b 0 (simp length-set (omega arith))

    pub row_end : get_or (row_set t i a b c d) (i + 2) 0 ≡ c
    unfolding row_set one two three
    row_end =
        get_or-set_other three (i + 3) (i + 2) d 0 (λ e. omega arith)
        ∙ get_or-set_same two (i + 2) c 0 (omega (arith, long_two))

    pub row_state : get_or (row_set t i a b c d) (i + 3) 0 ≡ d
    unfolding row_set one two three
    row_state = get_or-set_same three (i + 3) d 0 (omega (arith, long_three))

-- ---- a row more

module _ (state : ℕ) (file : Span) (kept : Kept) (rows : List ℕ) where
  pub added_other : (j : ℕ) → j < 4 * kept.rows → get_or (row_added state file kept rows) j 0 ≡ get_or rows j 0
  unfolding row_added
  added_other j h = row_other rows (4 * kept.rows) kept.used file.from file.end state j h

  module _ (h : 4 * kept.rows + 3 < length rows) where
    pub added_from : get_or (row_added state file kept rows) (4 * kept.rows) 0 ≡ kept.used
    unfolding row_added
    added_from = row_from rows (4 * kept.rows) kept.used file.from file.end state h

    pub added_bytes : get_or (row_added state file kept rows) (4 * kept.rows + 1) 0 ≡ file.from
    unfolding row_added
    added_bytes = row_bytes rows (4 * kept.rows) kept.used file.from file.end state h

    pub added_end : get_or (row_added state file kept rows) (4 * kept.rows + 2) 0 ≡ file.end
    unfolding row_added
    added_end = row_end rows (4 * kept.rows) kept.used file.from file.end state h

    pub added_state : get_or (row_added state file kept rows) (4 * kept.rows + 3) 0 ≡ state
    unfolding row_added
    added_state = row_state rows (4 * kept.rows) kept.used file.from file.end state h

    pub Tidy-added : Tidy rows kept → kept.rows < 64 → kept.used ≤ file.from → file.from ≤ file.end → file.end ≤ store_bytes → Tidy (row_added state file kept rows) (one_more file kept)
    unfolding one_more row_added
    Tidy-added t few u f e = record {
      whole = t.whole ∙ sym (row_length rows (4 * kept.rows) kept.used file.from file.end state);
      few = omega arith;
      room = e;
      inside = λ k l. elim (below k kept.rows (omega arith)) [
        | inl q ↦ rw q (rw (added_from, added_bytes, added_end) (u, (f, omega arith)))
        | inr q ↦
            let o = t.inside k q in
            rw (added_other (4 * k) (omega arith), added_other (4 * k + 1) (omega arith), added_other (4 * k + 2) (omega arith)) (o.0, (o.1.0, omega arith))
      ];
    }

    -- the table as the code leaves it
    pub Tidy-put : (t : List ℕ) → t ≡ row_set rows (4 * kept.rows) kept.used file.from file.end state → Tidy rows kept → kept.rows < 64 → kept.used ≤ file.from → file.from ≤ file.end → file.end ≤ store_bytes → Tidy t (record { rows = kept.rows + 1; used = file.end })
    unfolding row_added one_more
    Tidy-put t e d few u f l = rw e (Tidy-added d few u f l)

pub ruleset emptied = (Tidy-nothing)
