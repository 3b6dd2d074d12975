-- The minor that entries are written with: 2 exactly where one of the tags 23 to 25 occurs, else 1.
-- Assumes nothing.
use mathlib.Core.Path.{◌≡◌, refl, sym, ap, ◌∙◌}
use mathlib.Core.Bool.{Bool, true, false}
use mathlib.Core.Logic.{◌↔◌, inl, inr}
use mathlib.Core.List.{List, [], ◌∷◌, ◌++◌}
use mathlib.Core.Option.{Option, none, some}
use Prim.Native.Nat.{ℕ, ◌%◌, ◌≤◌, ◌<◌}
use native.Mathlib.Omega.{arith}
use Rattle.number.specs.Choice.{◌≤?◌}
use Rattle.number.proofs.Choice.{both, is_true, is_false, is_le, no_le, yes_le, from_yes_le}
use Rattle.number.proofs.Scans.{clash}
use Rattle.key.specs.Key.{key}
use Rattle.reader.specs.Values.{Ty, simple, interface, interface_is, array, sized, Param, param_type, signature, Method, method, Descriptor, descriptor, methods_of, Entry, entry, entry_descriptor}
use Rattle.reader.specs.Records.{StringTag}
use Rattle.reader.specs.Rules.{All, PrefixRule, TypeRule, ParamRule, ArgumentRule, MethodRule, DescriptorRule, EntryRule, newest}
use Rattle.meaning.proofs.Alls.{All-then}
use Rattle.meaning.specs.Facts.Conditions.{any_of}
use Rattle.meaning.proofs.Facts.Sets.{In-append}
use Rattle.meaning.proofs.Facts.Tests.{any_found}
use Rattle.meaning.specs.Normal.Minor.{prefixes_of, params_of, new_tag, new_prefix, new_type, new_param, new_method, new_descriptor, new_own, new_entry, minor_of, OccursIn, Occurs}
use Rattle.meaning.specs.Normal.Normal.{normal_header}
use Rattle.meaning.proofs.Normal.Anys.{All-In, In-All, any_In, any_no}

-- ---- tags

tag_new : (t : ℕ) → StringTag t → new_tag t ≡ true
unfolding new_tag
tag_new t h = sym (is_le 23 t _ _ h.0 (sym (yes_le t 25 h.1)))

pub tag_old : (t : ℕ) → t ≤ 22 → new_tag t ≡ false
unfolding new_tag
tag_old t h = sym (no_le 23 t _ _ (omega arith) refl)

pub new_prefix_lem : (b : ℕ) → StringTag (b % 32) → new_prefix b ≡ true
unfolding new_prefix
new_prefix_lem b h = tag_new (b % 32) h

prefix_new : (b : ℕ) → new_prefix b ≡ true → StringTag (b % 32)
unfolding new_prefix new_tag
prefix_new b =
    both (λ (t : Bool). t ≡ true → StringTag (b % 32)) (23 ≤? b % 32) (b % 32 ≤? 25) false
    (λ l e. (from_yes_le 23 (b % 32) l, from_yes_le (b % 32) 25 e)) (λ l e. clash false e refl)

-- ---- what occurs

module _ {R : Type 0} where
  occurs_in : (d : Descriptor R) → new_descriptor d ≡ true → OccursIn d
  unfolding new_descriptor new_method new_param new_type
  occurs_in d e =
      let m = any_found new_method (methods_of d) e in
      let x = any_found new_param (params_of m.0) m.2 in
      let b = any_found new_prefix (prefixes_of (param_type x.0)) x.2 in
      record { owner = m.0; own = m.1; place = x.0; placed = x.1; byte = b.0; written = b.1; string = prefix_new b.0 b.2 }

  in_occurs : (d : Descriptor R) → OccursIn d → new_descriptor d ≡ true
  unfolding new_descriptor new_method new_param new_type
  in_occurs d o =
      any_In new_method (methods_of d) o.owner o.own
      (any_In new_param (params_of o.owner) o.place o.placed
      (any_In new_prefix (prefixes_of (param_type o.place)) o.byte o.written (new_prefix_lem o.byte o.string)))

  own_occurs : (o : Option (Descriptor R)) → new_own o ≡ true → (d : Descriptor R) × (o ≡ some d) × OccursIn d
  unfolding new_own
  own_occurs none e = clash false e refl
  own_occurs (some d) e = (d, refl, occurs_in d e)

  occurs_own : (o : Option (Descriptor R)) (d : Descriptor R) → o ≡ some d → OccursIn d → new_own o ≡ true
  unfolding new_own
  occurs_own o d e h = ap new_own e ∙ in_occurs d h

-- ---- the minor

module _ {R : Type 0} (us : List (Entry R)) where
  pub minor_new : any_of new_entry us ≡ true → minor_of us ≡ 2
  unfolding minor_of
  minor_new e = sym (is_true _ _ _ e refl)

  pub minor_old : any_of new_entry us ≡ false → minor_of us ≡ 1
  unfolding minor_of
  minor_old e = sym (is_false _ _ _ e refl)

  some_new : minor_of us ≡ 2 → any_of new_entry us ≡ true
  unfolding minor_of
  some_new = both (λ (n : ℕ). n ≡ 2 → any_of new_entry us ≡ true) (any_of new_entry us) 2 1 (λ e _. e) (λ _ z. absurd (omega arith))

  -- 2 exactly where one of the tags occurs
  pub minor_exactly : (minor_of us ≡ 2) ↔ Occurs us
  unfolding new_entry
  minor_exactly = (
    λ e.
        let u = any_found new_entry us (some_new e) in
        let d = own_occurs (entry_descriptor u.0) u.2 in
        record { holder = u.0; there = u.1; descriptor = d.0; held = d.1; inside = d.2 },
    λ o. minor_new (any_In new_entry us o.holder o.there (occurs_own (entry_descriptor o.holder) o.descriptor o.held o.inside)),
  )

  -- else 1
  pub minor_else : (minor_of us ≡ 1) ↔ (Occurs us → ⊥)
  minor_else = (
    λ e o. omega (arith, minor_exactly.1 o),
    λ f. go (any_of new_entry us) refl f,
  )
    where
      go : (t : Bool) → any_of new_entry us ≡ t → (Occurs us → ⊥) → minor_of us ≡ 1
      go true e f = absurd (f (minor_exactly.0 (minor_new e)))
      go false e f = minor_old e

  pub minor_range : (1 ≤ minor_of us) × (minor_of us ≤ newest)
  unfolding minor_of
  minor_range = both (λ (n : ℕ). (1 ≤ n) × (n ≤ 2)) (any_of new_entry us) 2 1 (λ _. omega arith) (λ _. omega arith)

  -- an entry with one of the tags may be written with it
  pub minor_serves : All (λ u. new_entry u ≡ true → 2 ≤ minor_of us) us
  minor_serves = All-In (λ (u : Entry R). new_entry u ≡ true → 2 ≤ minor_of us) us (λ u i e. omega (arith, minor_new (any_In new_entry us u i e)))

  -- it is that of the header
  pub header_minor : (normal_header us).minor ≡ minor_of us
  unfolding normal_header
  header_minor = refl

-- ---- files of an older minor have none of the tags

module _ (minor n : ℕ) (older : minor < 2) where
  old_known : (b : ℕ) → PrefixRule minor b → new_prefix b ≡ false
  unfolding new_prefix
  old_known b r = elim r.known [ inl l ↦ tag_old (b % 32) l | inr l ↦ absurd (omega arith) ]

  old_prefixes : (t : Ty ℕ) → TypeRule minor n t → All (λ b. new_prefix b ≡ false) (prefixes_of t)
  unfolding prefixes_of
  old_prefixes (simple b) r = (old_known b r, tt)
  old_prefixes (interface b i) r = (old_known b r.0, tt)
  old_prefixes (interface_is b a) r = (old_known b r, tt)
  old_prefixes (array b x y t) r = (old_known b r.0, old_prefixes t r.1)
  old_prefixes (sized b x y) r = (old_known b r, tt)

  old_param : (x : Param ℕ) → ParamRule minor n x → new_param x ≡ false
  unfolding new_param new_type
  old_param x r = any_no new_prefix (prefixes_of (param_type x)) (old_prefixes (param_type x) r.type)

  old_method : (m : Method ℕ) → MethodRule minor n m → new_method m ≡ false
  unfolding new_method params_of
  old_method (method f w (signature ps x)) r =
      let s = r.2 in
      any_no new_param (ps ++ (x ∷ [])) (All-In (λ (y : Param ℕ). new_param y ≡ false) (ps ++ (x ∷ [])) (λ y i. elim (In-append y ps (x ∷ []) i) [
        | inl j ↦ old_param y (In-All (ArgumentRule minor n) ps s.arguments y j).0
        | inr (inl e) ↦ rw e (old_param x s.result.0)
        | inr (inr f) ↦ elim f [ ]
      ]))

  old_descriptor : (d : Descriptor ℕ) → DescriptorRule minor n d → new_descriptor d ≡ false
  unfolding new_descriptor methods_of
  old_descriptor (descriptor up ms ks f) r = any_no new_method ms (All-then (MethodRule minor n) (λ (m : Method ℕ). new_method m ≡ false) old_method ms r.methods)

  pub old_entry : (e : Entry ℕ) → EntryRule minor n e → new_entry e ≡ false
  unfolding new_entry new_own entry_descriptor
  old_entry (entry (key v w) i none) r = refl
  old_entry (entry (key v w) i (some d)) r = old_descriptor d r.2.1
