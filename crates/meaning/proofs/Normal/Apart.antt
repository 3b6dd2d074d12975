-- The rules apart from indexes: what a file obeys gives them, and they give the rules of any directory that has the references.
-- Assumes nothing.
use mathlib.Core.Path.{◌≡◌}
use mathlib.Core.Bool.{true}
use mathlib.Core.Option.{Option, none, some}
use Prim.Native.Nat.{ℕ, ◌≤◌}
use native.Mathlib.Omega.{arith}
use Rattle.key.specs.Key.{key}
use Rattle.reader.specs.Values.{Ty, simple, interface, interface_is, array, sized, Param, param, param_type, signature, Method, method, Descriptor, descriptor, Entry, entry, entry_descriptor}
use Rattle.reader.specs.Rules.{InDirectory, TypeRule, ArgumentRule, MethodRule, ParentRule, DescriptorRule, EntryRule, newest}
use Rattle.meaning.specs.Meaning.{map_descriptor, map_own, map_entry}
use Rattle.meaning.specs.Refs.{TypeRefs, ParamRefs, MethodRefs, ParentRefs, AllRefs, EntryRefs}
use Rattle.meaning.proofs.Alls.{All-then}
use Rattle.meaning.proofs.Maps.{map_descriptor_lem, map_entry_lem, descriptor_itself, itself}
use Rattle.meaning.proofs.Refs.{refs_then}
use Rattle.meaning.specs.Normal.Minor.{new_descriptor, new_own, new_entry}
use Rattle.meaning.specs.Normal.Encodable.{DescriptorApart, EntryApart}
use Rattle.meaning.proofs.Normal.Transfer.{descriptor_rule_lem}

-- ---- the references of what obeys the rules

module _ (minor n : ℕ) where
  type_in : (t : Ty ℕ) → TypeRule minor n t → TypeRefs (InDirectory n) t
  type_in (simple b) r = tt
  type_in (interface b i) r = r.1
  type_in (interface_is b a) r = tt
  type_in (array b x y t) r = type_in t r.1
  type_in (sized b x y) r = tt

  param_in : (x : Param ℕ) → TypeRule minor n (param_type x) → ParamRefs (InDirectory n) x
  unfolding param_type
  param_in (param f t) r = type_in t r

  method_in : (m : Method ℕ) → MethodRule minor n m → MethodRefs (InDirectory n) m
  method_in (method f w (signature ps x)) r =
      let s = r.2 in
      (All-then (ArgumentRule minor n) (ParamRefs (InDirectory n)) (λ y a. param_in y a.0.type) ps s.arguments, param_in x s.result.0.type)

  parent_in_lem : (up : Option ℕ) → ParentRule n up → ParentRefs (InDirectory n) up
  parent_in_lem none r = tt
  parent_in_lem (some i) r = r

  pub refs_in : (d : Descriptor ℕ) → DescriptorRule minor n d → AllRefs (InDirectory n) d
  refs_in (descriptor up ms ks f) r = (parent_in_lem up r.parent, All-then (MethodRule minor n) (MethodRefs (InDirectory n)) method_in ms r.methods)

  pub EntryRefs-in : (e : Entry ℕ) → EntryRule minor n e → EntryRefs (InDirectory n) e
  EntryRefs-in (entry (key v w) i none) r = tt
  EntryRefs-in (entry (key v w) i (some d)) r = refs_in d r.2.1

  -- ---- to the rules apart

  pub obeys_apart : (d : Descriptor ℕ) → DescriptorRule minor n d → DescriptorApart d
  obeys_apart d r =
      let refs = refs_in d r in
      let r1 : DescriptorRule minor n (map_descriptor itself d) = rw (descriptor_itself d) r in
      descriptor_rule_lem (λ _. 1) itself minor newest n 1 (λ z. absurd (omega arith)) d r1 (refs_then (InDirectory n) (λ _. InDirectory 1 1) (λ i _. (omega arith, omega arith)) d refs) (λ _. omega arith)

  pub entry_obeys_apart : (e : Entry ℕ) → EntryRule minor n e → EntryApart e
  unfolding map_entry map_own
  entry_obeys_apart (entry (key v w) i none) r = r
  entry_obeys_apart (entry (key v w) i (some d)) r = (r.0, r.1, (r.2.0, obeys_apart d r.2.1))

-- ---- and back, in a directory of m entries and under any minor but 0 that has what is used

module _ {R : Type 0} (f : R → ℕ) (minor m : ℕ) (above : 1 ≤ minor) where
  apart_obeys : (d : Descriptor R) → DescriptorApart d → AllRefs (λ r. InDirectory m (f r)) d → (new_descriptor d ≡ true → 2 ≤ minor) → DescriptorRule minor m (map_descriptor f d)
  apart_obeys d r a k = descriptor_rule_lem f (λ _. 1) newest minor 1 m (λ z. absurd (omega arith)) d r a k

  pub EntryApart-obeys : (u : Entry R) → EntryApart u → EntryRefs (λ r. InDirectory m (f r)) u → (new_entry u ≡ true → 2 ≤ minor) → EntryRule minor m (map_entry f u)
  unfolding map_entry map_own new_entry new_own entry_descriptor
  EntryApart-obeys (entry (key v w) i none) r a k = r
  EntryApart-obeys (entry (key v w) i (some d)) r a k = (r.0, r.1, (r.2.0, apart_obeys d r.2.1 a k))

-- ---- whatever the references are

pub apart_same : {R S : Type 0} (g : R → S) (d : Descriptor R) → DescriptorApart (map_descriptor g d) ≡ DescriptorApart d
apart_same g d = λ i. DescriptorRule newest 1 (map_descriptor_lem (λ _. 1) g d i)

pub EntryApart-same : {R S : Type 0} (g : R → S) (u : Entry R) → EntryApart (map_entry g u) ≡ EntryApart u
EntryApart-same g u = λ i. EntryRule newest 1 (map_entry_lem (λ _. 1) g u i)
