-- The answers of this crate's functions, one law for each way through them.
-- Assumes nothing.
use Rattle.std.specs.Prelude.{Err, Ok, Result, ℕ}
use mathlib.Core.Path.{◌≡◌, refl, sym, ap, ◌∙◌}
use mathlib.Core.List.{List}
use Prim.Native.Nat.{ℕ, ◌+◌, ◌-◌, ◌*◌, ◌%◌, ◌≤◌, ◌<◌}
use native.Mathlib.Omega.{arith}
use lib.ListN.{length}
use lib.Seq.{sets}
use Rattle.number.specs.Limits.{file_limit, entry_width}
use Rattle.number.specs.Choice.{when◌then◌else◌}
use Rattle.number.specs.Number.{be}
use Rattle.number.proofs.Choice.{is_true, is_false, is_lt, no_lt, is_eq, no_eq, is_ne, no_ne, yes_lt, not_lt}
use Rattle.reading.specs.Got.{got, bad}
use Rattle.reading.specs.declared.Refusal.{Refusal}
use Rattle.head.specs.declared.Header.{Header}
use Rattle.head.specs.Header.{read_header}
use Rattle.joining.specs.Outcome.{Outcome, refused, written, refusal, in_room, after, normalised_as}
use Rattle.genuine.specs.Start.{start_of, misplaced_start}
use Rattle.adopt.specs.Adopt.{gap_of, moved_bytes, adopted, fitted, moved_of, adopt_of, adopt_in, adopt_answer, adopt_buffer}

-- r is the answer for this outcome, and `left` what the buffer becomes
abbrev pub Answers : Outcome Refusal → List ℕ → Result ℕ Refusal → List ℕ → Type 0
Answers o out r left = (r ≡ normalised_as (in_room refusal (length out) o)) × (left ≡ after (in_room refusal (length out) o) out)

pub stops : (n q : ℕ) (out : List ℕ) (o : Outcome Refusal) → o ≡ refused (refusal n q) → Answers o out (Err (record { no = n; place = q })) out
unfolding normalised_as in_room after refusal
stops n q out o e = rw e (refl, refl)

-- ---- 26, 27, or the bytes

module _ (bytes : List ℕ) (size : ℕ) (e : length bytes ≡ size) (out : List ℕ) where
  long_is : file_limit < size → fitted bytes ≡ refused (refusal 26 0)
  unfolding fitted
  long_is h = sym (is_lt _ _ _ _ (omega arith) refl)

  short_is : size ≤ file_limit → fitted bytes ≡ written bytes
  unfolding fitted
  short_is h = sym (no_lt _ _ _ _ (omega arith) refl)

  pub too_long_lem : file_limit < size → Answers (fitted bytes) out (Err (record { no = 26; place = 0 })) out
  too_long_lem h = stops 26 0 out (fitted bytes) (long_is h)

  pub no_room : size ≤ file_limit → length out < size → Answers (fitted bytes) out (Err (record { no = 27; place = size })) out
  unfolding normalised_as in_room after refusal when◌then◌else◌
  no_room h k = rw (short_is h, yes_lt (length out) (length bytes) (omega arith)) (ap (λ (n : ℕ). Err (record { no = 27; place = n })) (sym e), refl)

  pub fits : size ≤ file_limit → size ≤ length out → {left : List ℕ} → left ≡ sets out 0 bytes → Answers (fitted bytes) out (Ok size) left
  unfolding normalised_as in_room after when◌then◌else◌
  fits h k q = rw (short_is h, not_lt (length out) (length bytes) (omega arith)) (ap (λ (n : ℕ). Ok n) (sym e), q)

-- ---- where the directory starts

module _ (s : List ℕ) (n field pool : ℕ) (n_is : n ≡ be 2 s 18) (field_is : field ≡ be 4 s 24) (pool_is : pool ≡ be 4 s 28) where
  pub moved_none : n ≡ 0 → moved_of s ≡ fitted (moved_bytes s 32 0 0)
  unfolding moved_of misplaced_start adopted
  moved_none z = sym (is_false _ _ _ (sym (is_eq _ _ _ _ (omega arith) refl)) (ap fitted (is_eq _ _ _ _ (omega arith) refl)))

  module _ (some : n ≡ 0 → ⊥) where
    some_in : be 2 s 18 ≡ 0 → ⊥
    some_in z = some (n_is ∙ z)

    pub moved_low : field ≤ 33 → moved_of s ≡ refused (refusal 8 24)
    unfolding moved_of misplaced_start start_of
    moved_low h = sym (is_true _ _ _ (sym (no_eq _ _ _ _ some_in (is_lt _ _ _ _ (omega arith) refl))) refl)

    pub moved_past : 33 < field → pool < field - 1 + entry_width * n → moved_of s ≡ refused (refusal 8 24)
    unfolding moved_of misplaced_start start_of
    moved_past h k = sym (is_true _ _ _ (sym (no_eq _ _ _ _ some_in (no_lt _ _ _ _ (omega arith) (sym (yes_lt _ _ (omega arith)))))) refl)

    pub moved_some : 33 < field → field - 1 + entry_width * n ≤ pool → (z : ℕ) → z ≡ (4 - (field - 1) % 4) % 4 → moved_of s ≡ fitted (moved_bytes s (field - 1) z (field - 1 + z))
    unfolding moved_of misplaced_start start_of adopted gap_of
    moved_some h k z e =
        let f : field - 1 ≡ be 4 s 24 - 1 = omega arith in
        let g : (4 - (field - 1) % 4) % 4 ≡ (4 - (be 4 s 24 - 1) % 4) % 4 = omega arith in
        rw (e, g, f)
        (sym (is_false _ _ _ (sym (no_eq _ _ _ _ some_in (no_lt _ _ _ _ (omega arith) (sym (not_lt _ _ (omega arith))))))
        (ap fitted (no_eq _ _ _ _ some_in refl))))

-- ---- the whole

module _ (s out : List ℕ) where
  as_outcome : {r : Result ℕ Refusal} {left : List ℕ} (o : Outcome Refusal) → adopt_of s (read_header s) ≡ o → Answers o out r left → (r ≡ adopt_answer s out) × (left ≡ adopt_buffer s out)
  unfolding adopt_answer adopt_buffer adopt_in
  as_outcome o e h = rw e h

  module _ (h : Header) (e : ℕ) (q : read_header s ≡ got h e) where
    pub whole_read : {r : Result ℕ Refusal} {left : List ℕ} → Answers (moved_of s) out r left → (r ≡ adopt_answer s out) × (left ≡ adopt_buffer s out)
    unfolding adopt_of
    whole_read w = as_outcome (moved_of s) (ap (adopt_of s) q) w

  module _ (x : Refusal) (q : read_header s ≡ bad x.no x.place) where
    pub whole_number : (x.no ≡ 8 → ⊥) → (Err x ≡ adopt_answer s out) × (out ≡ adopt_buffer s out)
    unfolding adopt_of
    whole_number f = as_outcome _ (ap (adopt_of s) q ∙ sym (is_ne _ _ _ _ f refl)) (stops x.no x.place out _ refl)

    pub whole_place : x.no ≡ 8 → (x.place ≡ 24 → ⊥) → (Err x ≡ adopt_answer s out) × (out ≡ adopt_buffer s out)
    unfolding adopt_of
    whole_place e f = as_outcome _ (ap (adopt_of s) q ∙ sym (no_ne _ _ _ _ e (is_ne _ _ _ _ f refl))) (stops x.no x.place out _ refl)

    pub whole_moved : x.no ≡ 8 → x.place ≡ 24 → {r : Result ℕ Refusal} {left : List ℕ} → Answers (moved_of s) out r left → (r ≡ adopt_answer s out) × (left ≡ adopt_buffer s out)
    unfolding adopt_of
    whole_moved e f w = as_outcome (moved_of s) (ap (adopt_of s) q ∙ sym (no_ne _ _ _ _ e (no_ne _ _ _ _ f refl))) w
