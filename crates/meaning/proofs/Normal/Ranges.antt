-- What bytes show is ranged; and ranges are free of the references.
-- Assumes nothing.
use mathlib.Core.Path.{◌≡◌, refl}
use mathlib.Core.Logic.{inl, inr}
use mathlib.Core.List.{List, [], ◌∷◌}
use mathlib.Core.Option.{Option, none, some}
use Prim.Native.Nat.{ℕ, zero, suc, ◌+◌, ◌-◌, ◌*◌, ◌%◌, ◌^◌, ◌<◌}
use native.Mathlib.Nat.{pow-suc}
use native.Mathlib.Omega.{arith}
use lib.ListN.{length, get_or, length-map}
use lib.Seq.{get_or-drop}
use Rattle.number.specs.Choice.{when◌then◌else◌, ◌=?◌}
use Rattle.number.specs.Number.{be}
use Rattle.key.specs.Key.{key}
use Rattle.reader.specs.Values.{Ty, simple, interface, interface_is, array, sized, Param, param, signature, Method, method, Constant, constant, Descriptor, descriptor, Entry, entry, no_entry, Typelib, typelib, entries_in, Header}
use Rattle.reader.specs.Records.{Bytes, ShowsByte, Run, ArrayTag, ShowsType, ShowsParam, ShowsMethod, Stored, ShowsConstant, ShowsDescriptor, ShowsOwn, ShowsEntry, pool_of, ShowsTypelib}
use Rattle.reader.specs.Rules.{All}
use Rattle.meaning.specs.Meaning.{map_ty, map_param, map_signature, map_method, map_descriptor, map_own, map_entry}
use Rattle.meaning.proofs.Alls.{All-mapped, each_All}
use Rattle.meaning.specs.Normal.Size.{value_width}
use Rattle.meaning.specs.Normal.Ranged.{RangedType, RangedParam, RangedMethod, RangedConstant, Ranged, RangedOwn, RangedEntry}

-- ---- of what bytes show

pub be_below : (s : List ℕ) → Bytes s → (k p : ℕ) → be k s p < 256 ^ k
unfolding be
be_below s b zero p = omega arith
be_below s b (suc k) p = omega (arith, be_below s b k p, b.small (p + k), pow-suc 256 k)

Run-All : {X : Type 0} (P : ℕ → X → ℕ → Type 0) (W : X → Type 0) → ((p : ℕ) (x : X) (e : ℕ) → P p x e → W x) → (p : ℕ) (xs : List X) (e : ℕ) → Run P p xs e → All W xs
Run-All P W f p [] e r = tt
Run-All P W f p (x ∷ xs) e r = (f p x r.0 r.1, Run-All P W f r.0 xs e r.2)

pub Stored-width : (k n : ℕ) → Stored k n → n ≡ value_width k
unfolding value_width when◌then◌else◌ ◌=?◌
Stored-width k n (inl (inl h, e)) = rw h e
Stored-width k n (inl (inr h, e)) = rw h e
Stored-width k n (inr (inl h, e)) = rw h e
Stored-width k n (inr (inr h, e)) = rw h e

module _ (s : List ℕ) (bytes : Bytes s) where
  byte_below : (p b : ℕ) → ShowsByte s p b → b < 256
  byte_below p b h = rw (← h.value) (bytes.small p)

  type_ranged : (p : ℕ) (t : Ty ℕ) (e : ℕ) → ShowsType s p t e → RangedType t
  type_ranged p (simple b) e h = (byte_below p b h.0, h.1)
  type_ranged p (interface b i) e h = (byte_below p b h.0, h.1)
  type_ranged p (interface_is b a) e h = (byte_below p b h.0, h.1, byte_below (p + 1) a h.2)
  type_ranged p (array b x y t) e h = (byte_below p b h.0, h.1, byte_below (p + 1) x h.2, byte_below (p + 2) y h.3, type_ranged (p + 3) t e h.4)
  type_ranged p (sized b x y) e h = (byte_below p b h.0, h.1, byte_below (p + 1) x h.2, byte_below (p + 2) y h.3)

  param_ranged : (p : ℕ) (x : Param ℕ) (e : ℕ) → ShowsParam s p x e → RangedParam x
  param_ranged p (param f t) e h = (byte_below p f h.0, type_ranged (p + 1) t e h.1)

  method_ranged : (p : ℕ) (m : Method ℕ) (e : ℕ) → ShowsMethod s p m e → RangedMethod m
  method_ranged p (method f w (signature ps r)) e h = (
    byte_below p f h.0,
    byte_below (p + 5) (length ps) h.2,
    Run-All (ShowsParam s) RangedParam param_ranged (p + 6) ps h.3.0 h.3.1,
    param_ranged h.3.0 r e h.3.2,
  )

  constant_ranged : (p : ℕ) (c : Constant) (e : ℕ) → ShowsConstant s p c e → RangedConstant c
  constant_ranged p (constant w k v) e h =
      let n : ℕ = h.2.0 in
      let v1 : be n s (p + 5) ≡ v = h.2.2.value in
      rw (← Stored-width k n h.2.1, ← v1) (be_below s bytes n (p + 5))

  pub descriptor_Ranged : (p : ℕ) (d : Descriptor ℕ) (e : ℕ) → ShowsDescriptor s p d e → Ranged d
  descriptor_Ranged p (descriptor up ms ks f) e h =
      let a = h.2 in
      let b = a.3 in (
        Run-All (ShowsMethod s) RangedMethod method_ranged (p + 4) ms a.0 a.1,
        Run-All (ShowsConstant s) RangedConstant constant_ranged (a.0 + 2) ks b.0 b.1,
        byte_below b.0 f b.2,
      )

own_ranged : (pool : List ℕ) → Bytes pool → (q : ℕ) (d : Option (Descriptor ℕ)) → ShowsOwn pool q d → RangedOwn d
own_ranged pool b q none h = tt
own_ranged pool b q (some d) h = descriptor_Ranged pool b (q - 1) d h.1.0 h.1.1

entry_ranged : (s pool : List ℕ) → Bytes s → Bytes pool → (p : ℕ) (e : Entry ℕ) → ShowsEntry s pool p e → RangedEntry e
entry_ranged s pool b c p (entry (key v w) i d) h = (rw (← h.0) (be_below s b 16 p), own_ranged pool c (be 4 s (p + 24)) d h.3)

pool_Bytes : (s : List ℕ) (h : Header) → Bytes s → Bytes (pool_of h s)
unfolding pool_of
pool_Bytes s h b = record { small = λ i. rw (get_or-drop h.pool s i 0) (b.small (h.pool + i)) }

-- the entries of a file
pub shown_ranged : (s : List ℕ) → Bytes s → (t : Typelib) → ShowsTypelib s t → All RangedEntry (entries_in t)
unfolding entries_in
shown_ranged s b (typelib h notes es) a =
    each_All RangedEntry es no_entry (λ k l.
    entry_ranged s (pool_of h s) b (pool_Bytes s h b) (h.directory + 28 * k) (get_or es k no_entry) (a.2.each k (omega (arith, a.2.count))))

-- ---- with other references

module _ {R S : Type 0} (g : R → S) where
  type_same : (t : Ty R) → RangedType (map_ty g t) ≡ RangedType t
  unfolding map_ty
  type_same (simple b) = refl
  type_same (interface b r) = refl
  type_same (interface_is b a) = refl
  type_same (array b x y t) = λ i. (b < 256) × ArrayTag (b % 32) × (x < 256) × (y < 256) × type_same t i
  type_same (sized b x y) = refl

  param_same : (x : Param R) → RangedParam (map_param g x) ≡ RangedParam x
  unfolding map_param
  param_same (param f t) = λ i. (f < 256) × type_same t i

  method_same : (m : Method R) → RangedMethod (map_method g m) ≡ RangedMethod m
  unfolding map_method map_signature
  method_same (method f w (signature ps r)) = λ i.
      (f < 256) × (length-map ps (map_param g) i < 256) × All-mapped (map_param g) RangedParam RangedParam param_same ps i × param_same r i

  pub Ranged-same : (d : Descriptor R) → Ranged (map_descriptor g d) ≡ Ranged d
  unfolding map_descriptor
  Ranged-same (descriptor up ms ks f) = λ i. All-mapped (map_method g) RangedMethod RangedMethod method_same ms i × All RangedConstant ks × (f < 256)

  pub ranged_entry : (u : Entry R) → RangedEntry (map_entry g u) ≡ RangedEntry u
  unfolding map_entry map_own
  ranged_entry (entry k j none) = refl
  ranged_entry (entry k j (some d)) = λ i. (j < 256 ^ 16) × Ranged-same d i
