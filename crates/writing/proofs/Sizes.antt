-- A record that is shown has as many bytes in the pool as in normal form.
-- Assumes nothing.
pub use Rattle.meaning.proofs.Normal.Ranges.{Stored-width}
use mathlib.Core.Path.{◌≡◌}
use mathlib.Core.List.{List, [], ◌∷◌}
use Prim.Native.Nat.{ℕ, ◌+◌}
use native.Mathlib.Omega.{arith}
use Rattle.reader.specs.Values.{Ty, simple, interface, interface_is, array, sized, Param, param, Method, method, signature, Constant, constant, Descriptor, descriptor}
use Rattle.reader.specs.Records.{Run, ShowsType, ShowsParam, ShowsMethod, ShowsConstant, ShowsDescriptor}
use Rattle.meaning.specs.Normal.Size.{sum, type_size, param_size, method_size, constant_size, descriptor_size}

pub run_end : {X : Type 0} (P : ℕ → X → ℕ → Type 0) (size : X → ℕ) → ((p : ℕ) (x : X) (e : ℕ) → P p x e → e ≡ p + size x) → (p : ℕ) (xs : List X) (e : ℕ) → Run P p xs e → e ≡ p + sum size xs
unfolding sum
run_end P size f p [] e r = omega (arith, r)
run_end P size f p (x ∷ xs) e r = omega (arith, f p x r.0 r.1, run_end P size f r.0 xs e r.2)

module _ (s : List ℕ) where
  pub type_end : (p : ℕ) (t : Ty ℕ) (e : ℕ) → ShowsType s p t e → e ≡ p + type_size t
  unfolding type_size
  type_end p (simple b) e h = h.2
  type_end p (interface b i) e h = h.3
  type_end p (interface_is b a) e h = h.3
  type_end p (array b x y t) e h = omega (arith, type_end (p + 3) t e h.4)
  type_end p (sized b x y) e h = h.4

  pub param_end : (p : ℕ) (x : Param ℕ) (e : ℕ) → ShowsParam s p x e → e ≡ p + param_size x
  unfolding param_size
  param_end p (param f t) e h = omega (arith, type_end (p + 1) t e h.1)

  pub method_end_lem : (p : ℕ) (m : Method ℕ) (e : ℕ) → ShowsMethod s p m e → e ≡ p + method_size m
  unfolding method_size
  method_end_lem p (method f w (signature ps r)) e h =
      omega (arith, run_end (ShowsParam s) param_size param_end (p + 6) ps h.3.0 h.3.1, param_end h.3.0 r e h.3.2)

  pub constant_end : (p : ℕ) (c : Constant) (e : ℕ) → ShowsConstant s p c e → e ≡ p + constant_size c
  unfolding constant_size
  constant_end p (constant w k v) e h = omega (arith, Stored-width k h.2.0 h.2.1, h.2.3)

  pub descriptor_end : (p : ℕ) (d : Descriptor ℕ) (e : ℕ) → ShowsDescriptor s p d e → e ≡ p + descriptor_size d
  unfolding descriptor_size
  descriptor_end p (descriptor up ms ks f) e h =
      let a = h.2 in
      let b = a.3 in
      omega (arith, run_end (ShowsMethod s) method_size method_end_lem (p + 4) ms a.0 a.1, run_end (ShowsConstant s) constant_size constant_end (a.0 + 2) ks b.0 b.1, b.3)
