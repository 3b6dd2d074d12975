-- Answers about a types.rdb as numbers.
-- Assumes nothing.
use Rattle.rdb_value.specs.declared.Value.{Value}
use Rattle.std.specs.Prelude.{Err, Ok, Option, Result, Some}
use mathlib.Core.Path.{◌≡◌, refl, sym, ap, ◌∙◌}
use mathlib.Core.Bool.{false}
use mathlib.Core.List.{List, [], ◌∷◌}
use Prim.Native.Nat.{ℕ, ◌+◌, ◌%◌, ◌^◌, ◌≤◌, ◌<◌}
use native.Mathlib.Omega.{arith}
use lib.ListN.{get_or}
use lib.Seq.{sets}
use Rattle.number.specs.Number.{le}
use Rattle.number.proofs.Choice.{is_eq, no_eq, from_not_lt}
use Rattle.reading.specs.Got.{Accepted}
use Rattle.reading.specs.declared.Refusal.{Refusal}
use Rattle.reading.proofs.Facts.{Facts, fact, f_unless, f_read}
use Rattle.numbers.specs.Numbers.{refusal_numbers}
use Rattle.rdb_text.proofs.FieldLaws.{f_byte, f_uint}
use Rattle.rdb_record.specs.Constant.{value_size, no_boolean, read_stored, read_constant}
use Rattle.rdb_interface.specs.declared.SetCount.{SetCount}
use Rattle.rdb_interface.specs.declared.SetCount.TheVariants.{Always, UnlessReadOnly}
use Rattle.rdb_value.specs.Value.{value_of}
use Rattle.rdb_value.proofs.ValueLaws.{kept, kind_kept}
use Rattle.rdb.specs.Questions.{constant_said}
use Rattle.rdb.proofs.AnswerLaws.{value_said}
use Rattle.rdb_numbers.specs.Numbers.{by_reading, constant_numbers}

-- ---- by the number of a reading

module _ {X : Type 0} (f : SetCount → X) (other : X) (r : ℕ) {z : X} where
  pub first_reading : r ≡ 0 → z ≡ f Always → z ≡ by_reading f other r
  unfolding by_reading
  first_reading q h = is_eq _ _ _ _ q h

  pub second_reading : r ≡ 1 → z ≡ f UnlessReadOnly → z ≡ by_reading f other r
  unfolding by_reading
  second_reading q h = no_eq _ _ _ _ (λ e. omega arith) (is_eq _ _ _ _ q h)

  pub no_reading : (r ≡ 0 → ⊥) → (r ≡ 1 → ⊥) → z ≡ other → z ≡ by_reading f other r
  unfolding by_reading
  no_reading a b h = no_eq _ _ _ _ a (no_eq _ _ _ _ b h)

-- ---- a constant that was read: its kind is one of ten, and a BOOLEAN is 0 or 1

module _ (s : List ℕ) (o : ℕ) where
  -- its kind k and its stored number v
  pub record Stored (k v : ℕ) : Type 0 where
    pub kind : k ≤ 9
    pub boolean : no_boolean k v ≡ false

  Stored-Facts : Facts (λ x e. Stored (get_or s o 0 % 128) (le (value_size (get_or s o 0 % 128)) s (o + 1))) (read_constant s o)
  unfolding read_constant read_stored
  Stored-Facts =
      f_byte s o _ _ (λ h. f_unless _ _ _ _ _ (λ k. f_uint s (o + 1) _ _ _ (λ _. f_unless _ _ _ _ _ (λ b.
      f_read _ _ (λ x e _. record { kind = from_not_lt _ _ k; boolean = b })))))

  at_most : (k v : ℕ) → no_boolean k v ≡ false → k ≡ 0 → v ≤ 1
  unfolding no_boolean
  at_most k v h q = from_not_lt 1 v (is_eq _ _ _ _ q refl ∙ h)

  pub stored_numbers : {k v : ℕ} → Accepted (read_constant s o) → k ≡ get_or s o 0 % 128 → (v ≡ le (value_size k) s (o + 1)) × (v < 256 ^ value_size k) → 0 ∷ k ∷ v ∷ [] ≡ constant_numbers (constant_said (read_constant s o))
  unfolding constant_numbers
  stored_numbers {k} {v} a q w =
      let t = fact _ _ Stored-Facts a.2 in
      let e : v ≡ le (value_size (get_or s o 0 % 128)) s (o + 1) = w.0 ∙ ap (λ (x : ℕ). le (value_size x) s (o + 1)) q in
      let n : k ≤ 9 = omega (arith, t.kind) in
      let b : no_boolean k v ≡ false = (λ i. no_boolean (q i) (e i)) ∙ t.boolean in
      let z : Ok (Some (value_of k v)) ≡ constant_said (read_constant s o) = value_said s o a (λ i. value_of (q i) (e i)) in
      (λ i. 0 ∷ sym (kind_kept k v n) i ∷ sym (kept k v w.1 (at_most k v b)) i ∷ []) ∙ ap constant_numbers z

-- ---- the code's answers

-- the bytes of a value, by their number
pub sized : (s : List ℕ) (at w b k : ℕ) {v : ℕ} → 256 ^ w ≡ b → value_size k ≡ w → v ≡ le w s at → v < b → (v ≡ le (value_size k) s at) × (v < 256 ^ value_size k)
sized s at w b k {v} q e h l = (h ∙ ap (λ (x : ℕ). le x s at) (sym e), rw (e, q) l)

module _ (list : List ℕ) {after : List ℕ} where
  pub then_numbers : {A : Type 0} (numbers : A → List ℕ) (x y : A) → after ≡ sets list 0 (numbers x) → x ≡ y → after ≡ sets list 0 (numbers y)
  then_numbers {A} numbers x y h e = h ∙ ap (λ (z : A). sets list 0 (numbers z)) e

  pub refused_numbers : (w : Refusal) (y : Result (Option Value) Refusal) → after ≡ sets list 0 (refusal_numbers w) → Err w ≡ y → after ≡ sets list 0 (constant_numbers y)
  unfolding constant_numbers
  refused_numbers w y h e = then_numbers constant_numbers (Err w) y h e
