-- The bytes of a constant and of a descriptor show it.
-- Assumes nothing.
use mathlib.Core.Path.{◌≡◌, refl}
use mathlib.Core.Logic.{◌⊎◌, inl, inr}
use mathlib.Core.List.{List, [], ◌∷◌, ◌++◌, append_assoc}
use mathlib.Core.Option.{Option, none, some}
use Prim.Native.Nat.{ℕ, ◌+◌, ◌-◌, ◌≤◌}
use native.Mathlib.Omega.{arith}
use lib.ListN.{length}
use Rattle.number.specs.Choice.{when◌then◌else◌, ◌=?◌}
use Rattle.reader.specs.Values.{Method, Constant, constant, Descriptor, descriptor, parent_index}
use Rattle.reader.specs.Records.{Run, Stored, ShowsMethod, ShowsConstant, ShowsDescriptor}
use Rattle.reader.specs.Rules.{All, MethodRule, ConstantRule, ParentRule, DescriptorRule}
use Rattle.meaning.proofs.Alls.{All-both}
use Rattle.meaning.proofs.Maps.{itself}
use Rattle.meaning.specs.Normal.BigEndian.{bytes_of}
use Rattle.meaning.specs.Normal.Size.{sum, method_size, value_width, constant_size, descriptor_size, method_name_size, constant_name, constant_name_size}
use Rattle.meaning.specs.Normal.Record.{run, name_after, methods_bytes, constant_bytes, constants_bytes, parent_number, constants_from, descriptor_bytes, method_name_bytes, constant_name_bytes, names_bytes}
use Rattle.meaning.specs.Normal.Ranged.{RangedMethod, RangedConstant, Ranged}
use Rattle.meaning.proofs.Normal.Lengths.{length_bytes, length-run, length_methods, length_constant, length_constants, length_method_name, length_constant_name}
use Rattle.meaning.proofs.Normal.From.{From, From-at, From-head, From-tail, From-field}
use Rattle.meaning.proofs.Normal.Shows.{after_name, From-split, name_shows, GoodMethod, methods_show}

-- ---- constants

known_Stored : (k : ℕ) → ((k ≡ 1) ⊎ ((k ≡ 2) ⊎ ((k ≡ 5) ⊎ (k ≡ 6)))) → Stored k (value_width k)
unfolding value_width when◌then◌else◌ ◌=?◌
known_Stored k (inl h) = rw h (inl (inl refl, refl))
known_Stored k (inr (inl h)) = rw h (inr (inl refl, refl))
known_Stored k (inr (inr (inl h))) = rw h (inl (inr refl, refl))
known_Stored k (inr (inr (inr h))) = rw h (inr (inr refl, refl))

parent_number_lem : (up : Option ℕ) → parent_number itself up ≡ parent_index up
unfolding parent_number parent_index
parent_number_lem none = refl
parent_number_lem (some i) = refl

parent_small : (n : ℕ) (up : Option ℕ) → ParentRule n up → parent_index up ≤ n
unfolding parent_index
parent_small n none r = omega arith
parent_small n (some i) r = r.1

abbrev pub GoodConstant : Constant → Type 0
GoodConstant c = RangedConstant c × ConstantRule c

-- what the methods and constants of a descriptor obey
pub good_methods : (minor n : ℕ) (up : Option ℕ) (ms : List (Method ℕ)) (ks : List Constant) (f : ℕ) → Ranged (descriptor up ms ks f) → DescriptorRule minor n (descriptor up ms ks f)
    → All (GoodMethod minor n) ms × All GoodConstant ks
good_methods minor n up ms ks f g r = (
  All-both RangedMethod (MethodRule minor n) (GoodMethod minor n) (λ m x y. (x, y)) ms g.0 r.methods,
  All-both RangedConstant ConstantRule GoodConstant (λ c x y. (x, y)) ks g.1 r.constants,
)

module _ (s : List ℕ) (small : length s ≤ 1048576) where
  pub constant_shows : (c : Constant) (q p e : ℕ) → GoodConstant c → 1 ≤ q → e ≡ p + constant_size c
      → From s p (constant_bytes q c) → From s (q - 1) (constant_name_bytes c) → ShowsConstant s p c e
  unfolding constant_bytes constant_size constant_name_bytes constant_name
  constant_shows (constant w k v) q p e g l d h b =
      let value : List ℕ = bytes_of (value_width k) v in
      let whole : From s p (bytes_of 4 q ++ (k ∷ value)) = simp append_assoc at h in
      let h1 = From-split s p 4 (bytes_of 4 q) (k ∷ value) (length_bytes 4 q) whole in
      let h2 = From-at s (p + 4 + 1) (p + 5) value (omega arith) (From-tail s (p + 4) k value h1.1) in (
        name_shows s small p q w l h1.0 b,
        From-head s (p + 4) k value h1.1,
        (value_width k, known_Stored k g.1.1, From-field s (value_width k) (p + 5) v g.0 h2, omega arith),
      )

  constants_show : (cs : List Constant) (q p e : ℕ) → All GoodConstant cs → 1 ≤ q → e ≡ p + sum constant_size cs
      → From s p (constants_bytes q cs) → From s (q - 1) (run constant_name_bytes cs) → Run (ShowsConstant s) p cs e
  unfolding constants_bytes sum run constant_name_size
  constants_show [] q p e g l d h k = omega arith
  constants_show (c ∷ cs) q p e g l d h k =
      let q1 = name_after q (constant_name c) in
      let z = From-split s p (constant_size c) (constant_bytes q c) (constants_bytes q1 cs) (length_constant q c) h in
      let y = From-split s (q - 1) (constant_name_size c) (constant_name_bytes c) (run constant_name_bytes cs) (length_constant_name c) k in
      let j = after_name q (constant_name c) l in (
        p + constant_size c,
        constant_shows c q p (p + constant_size c) g.0 l refl z.0 y.0,
        constants_show cs q1 (p + constant_size c) e g.1 j.0 (omega arith) z.1 (From-at s (q - 1 + constant_name_size c) (q1 - 1) (run constant_name_bytes cs) j.1 y.1),
      )

  -- ---- descriptors

  -- one whose methods and constants are shown by the bytes written for them, whatever names these point to
  pub parts_show : (minor n : ℕ) → n ≤ 1024 → (up : Option ℕ) (ms : List (Method ℕ)) (ks : List Constant) (f p : ℕ) (methods constants : List ℕ) → DescriptorRule minor n (descriptor up ms ks f)
      → length methods ≡ sum method_size ms → length constants ≡ sum constant_size ks
      → ((p e : ℕ) → e ≡ p + sum method_size ms → From s p methods → Run (ShowsMethod s) p ms e)
      → ((p e : ℕ) → e ≡ p + sum constant_size ks → From s p constants → Run (ShowsConstant s) p ks e)
      → From s p (bytes_of 2 (parent_number itself up) ++ bytes_of 2 (length ms) ++ methods ++ bytes_of 2 (length ks) ++ constants ++ (f ∷ []))
      → ShowsDescriptor s p (descriptor up ms ks f) (p + descriptor_size (descriptor up ms ks f))
  unfolding descriptor_size
  parts_show minor n few up ms ks f p methods constants r x y shown told h =
      let last : List ℕ = constants ++ (f ∷ []) in
      let tail : List ℕ = bytes_of 2 (length ks) ++ last in
      let counted : List ℕ = bytes_of 2 (length ms) ++ (methods ++ tail) in
      let up1 : parent_number itself up ≤ n = rw (parent_number_lem up) (parent_small n up r.parent) in
      let whole : From s p (bytes_of 2 (parent_number itself up) ++ counted) = simp append_assoc at h in
      let h1 = From-split s p 2 (bytes_of 2 (parent_number itself up)) counted (length_bytes 2 (parent_number itself up)) whole in
      let h2 = From-split s (p + 2) 2 (bytes_of 2 (length ms)) (methods ++ tail) (length_bytes 2 (length ms)) h1.1 in
      let h3 = From-split s (p + 4) (sum method_size ms) methods tail x (From-at s (p + 2 + 2) (p + 4) (methods ++ tail) (omega arith) h2.1) in
      let a = p + 4 + sum method_size ms in
      let h4 = From-split s a 2 (bytes_of 2 (length ks)) last (length_bytes 2 (length ks)) h3.1 in
      let h5 = From-split s (a + 2) (sum constant_size ks) constants (f ∷ []) y h4.1 in
      let b = a + 2 + sum constant_size ks in (
        rw (← parent_number_lem up) (From-field s 2 p (parent_number itself up) (omega arith) h1.0),
        From-field s 2 (p + 2) (length ms) (omega (arith, r.few_methods)) h2.0,
        (
          a,
          shown (p + 4) a refl h3.0,
          From-field s 2 a (length ks) (omega (arith, r.few_constants)) h4.0,
          (b, told (a + 2) b refl h5.0, From-head s b f [] h5.1, omega arith),
        ),
      )

  pub descriptor_shows : (minor n : ℕ) → n ≤ 1024 → (d : Descriptor ℕ) (q p : ℕ) → Ranged d → DescriptorRule minor n d → 1 ≤ q
      → From s p (descriptor_bytes itself q d) → From s (q - 1) (names_bytes d) → ShowsDescriptor s p d (p + descriptor_size d)
  unfolding descriptor_bytes names_bytes constants_from
  descriptor_shows minor n few (descriptor up ms ks f) q p g r l h k =
      let q1 = q + sum method_name_size ms in
      let good = good_methods minor n up ms ks f g r in
      let names = From-split s (q - 1) (sum method_name_size ms) (run method_name_bytes ms) (run constant_name_bytes ks) (length-run method_name_bytes method_name_size length_method_name ms) k in
      parts_show minor n few up ms ks f p (methods_bytes itself q ms) (constants_bytes q1 ks) r (length_methods itself q ms) (length_constants q1 ks)
      (λ p e z x. methods_show s minor n few small ms q p e good.0 l z x names.0)
      (λ p e z x. constants_show ks q1 p e good.1 (omega arith) z x (From-at s (q - 1 + sum method_name_size ms) (q1 - 1) (run constant_name_bytes ks) (omega arith) names.1))
      h
