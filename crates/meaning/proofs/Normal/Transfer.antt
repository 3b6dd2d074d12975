-- The rules of a descriptor whose references are read as other indexes, under another minor: they say nothing of a reference but that it is in the
-- directory, and nothing of the minor but that it has what the descriptor uses.
-- Assumes nothing.
use mathlib.Core.Path.{◌≡◌, refl, sym, ap, ◌∙◌}
use mathlib.Core.Bool.{Bool, true}
use mathlib.Core.Logic.{◌⊎◌, inl, inr}
use mathlib.Core.List.{List, [], ◌∷◌, map}
use mathlib.Core.Option.{Option, none, some}
use Prim.Native.Nat.{ℕ, zero, suc, ◌%◌, ◌≤◌}
use lib.ListN.{length, length-map}
use Rattle.reader.specs.Values.{Ty, simple, interface, interface_is, array, sized, prefix, Param, param, param_flags, param_type, signature, Method, method, method_flags, method_name, Descriptor, descriptor, methods_of}
use Rattle.reader.specs.Records.{StringTag}
use Rattle.reader.specs.Rules.{All, PrefixRule, InDirectory, TypeRule, nesting, ParamRule, ArgumentRule, ResultRule, prefix_at, NamesIid, NamesSize, NumbersRule, MethodRule, flags_of, name_of, ParentRule, DescriptorRule}
use Rattle.meaning.specs.Meaning.{map_ty, map_param, map_signature, map_method, map_parent, map_descriptor}
use Rattle.meaning.specs.Refs.{TypeRefs, ParamRefs, MethodRefs, ParentRefs, AllRefs}
use Rattle.meaning.specs.Facts.Conditions.{any_of}
use Rattle.meaning.specs.Normal.Minor.{prefixes_of, params_of, new_prefix, new_type, new_param, new_method, new_descriptor}
use Rattle.meaning.proofs.Normal.Anys.{any_first, any_rest, any_left, any_right}
use Rattle.meaning.proofs.Normal.Minors.{new_prefix_lem}

-- ---- what no map of references changes

module _ {R : Type 0} (f g : R → ℕ) where
  prefix_same : (t : Ty R) → prefix (map_ty f t) ≡ prefix (map_ty g t)
  unfolding map_ty prefix
  prefix_same (simple b) = refl
  prefix_same (interface b r) = refl
  prefix_same (interface_is b a) = refl
  prefix_same (array b x y t) = refl
  prefix_same (sized b x y) = refl

  nesting_same : (t : Ty R) → nesting (map_ty f t) ≡ nesting (map_ty g t)
  unfolding map_ty
  nesting_same (simple b) = refl
  nesting_same (interface b r) = refl
  nesting_same (interface_is b a) = refl
  nesting_same (array b x y t) = ap suc (nesting_same t)
  nesting_same (sized b x y) = refl

  flags_same : (x : Param R) → param_flags (map_param f x) ≡ param_flags (map_param g x)
  unfolding map_param param_flags
  flags_same (param h t) = refl

  result_same : (x : Param R) → prefix (param_type (map_param f x)) ≡ prefix (param_type (map_param g x))
  unfolding map_param param_type
  result_same (param h t) = prefix_same t

  prefixes_same : (ps : List (Param R)) (a : ℕ) → prefix_at (map (map_param f) ps) a ≡ prefix_at (map (map_param g) ps) a
  prefixes_same [] a = refl
  prefixes_same (x ∷ ps) zero = result_same x
  prefixes_same (x ∷ ps) (suc a) = prefixes_same ps a

  method_flags_same : (ms : List (Method R)) (i : ℕ) → flags_of (map (map_method f) ms) i ≡ flags_of (map (map_method g) ms) i
  unfolding map_method method_flags
  method_flags_same [] i = refl
  method_flags_same (method h w s ∷ ms) zero = refl
  method_flags_same (m ∷ ms) (suc i) = method_flags_same ms i

  names_same : (ms : List (Method R)) (i : ℕ) → name_of (map (map_method f) ms) i ≡ name_of (map (map_method g) ms) i
  unfolding map_method method_name
  names_same [] i = refl
  names_same (method h w s ∷ ms) zero = refl
  names_same (m ∷ ms) (suc i) = names_same ms i

  length_same : {X Y : Type 0} (h k : X → Y) (xs : List X) → length (map h xs) ≡ length (map k xs)
  length_same h k xs = length-map xs h ∙ sym (length-map xs k)

-- ---- rules, from one reading of the references to another

module _ {R : Type 0} (f g : R → ℕ) (minor minor' n m : ℕ) (newer : minor' ≡ 0 → minor ≡ 0) where
  abbrev There : R → Type 0
  There r = InDirectory m (f r)

  -- what has one of the tags 23 to 25 needs a minor that has them
  abbrev Served : Bool → Type 0
  Served t = t ≡ true → 2 ≤ minor'

  known_rule : (b : ℕ) → Served (new_prefix b) → (b % 32 ≤ 22) ⊎ (StringTag (b % 32) × (2 ≤ minor)) → (b % 32 ≤ 22) ⊎ (StringTag (b % 32) × (2 ≤ minor'))
  known_rule b k (inl l) = inl l
  known_rule b k (inr l) = inr (l.0, k (new_prefix_lem b l.0))

  prefix_rule : (b : ℕ) → PrefixRule minor b → Served (new_prefix b) → PrefixRule minor' b
  prefix_rule b r k = record { known = known_rule b k r.known; astring = λ e z. r.astring e (newer z); unique = r.unique; reference = r.reference; pointer = r.pointer }

  first_rule : (b : ℕ) (bs : List ℕ) → PrefixRule minor b → Served (any_of new_prefix (b ∷ bs)) → PrefixRule minor' b
  first_rule b bs r k = prefix_rule b r (λ e. k (any_first new_prefix b bs e))

  type_rule : (t : Ty R) → TypeRule minor n (map_ty g t) → TypeRefs There t → Served (new_type t) → TypeRule minor' m (map_ty f t)
  unfolding map_ty new_type prefixes_of
  type_rule (simple b) r a k = first_rule b [] r k
  type_rule (interface b i) r a k = (first_rule b [] r.0 k, a)
  type_rule (interface_is b x) r a k = first_rule b [] r k
  type_rule (array b x y t) r a k = (first_rule b (prefixes_of t) r.0 k, type_rule t r.1 a (λ e. k (any_rest new_prefix b (prefixes_of t) e)))
  type_rule (sized b x y) r a k = first_rule b [] r k

  param_rule_lem : (x : Param R) → ParamRule minor n (map_param g x) → ParamRefs There x → Served (new_param x) → ParamRule minor' m (map_param f x)
  unfolding map_param param_flags param_type new_param
  param_rule_lem (param h t) r a k = record {
    flags = record { reserved = r.flags.reserved; dipper = λ z. r.flags.dipper (newer z) };
    type = type_rule t r.type a k;
    nested = rw (nesting_same f g t) r.nested;
  }

  argument_rule : (x : Param R) → ArgumentRule minor n (map_param g x) → ParamRefs There x → Served (new_param x) → ArgumentRule minor' m (map_param f x)
  argument_rule x r a k = (param_rule_lem x r.0 a k, rw (flags_same f g x) r.1)

  result_rule : (x : Param R) → ResultRule minor n (map_param g x) → ParamRefs There x → Served (new_param x) → ResultRule minor' m (map_param f x)
  result_rule x r a k = (param_rule_lem x r.0 a k, rw (flags_same f g x) r.1, rw (flags_same f g x) r.2)

  module _ (ps : List (Param R)) where
    names_iid : (a : ℕ) → NamesIid (map (map_param g) ps) a → NamesIid (map (map_param f) ps) a
    names_iid a h = (rw (length_same f g (map_param f) (map_param g) ps) h.0, rw (prefixes_same f g ps a) h.1, rw (prefixes_same f g ps a) h.2)

    names_size_lem : (a : ℕ) → NamesSize (map (map_param g) ps) a → NamesSize (map (map_param f) ps) a
    names_size_lem a h = (rw (length_same f g (map_param f) (map_param g) ps) h.0, rw (prefixes_same f g ps a) h.1, rw (prefixes_same f g ps a) h.2)

    type_numbers : (t : Ty R) → NumbersRule (map (map_param g) ps) (map_ty g t) → NumbersRule (map (map_param f) ps) (map_ty f t)
    unfolding map_ty
    type_numbers (simple b) h = tt
    type_numbers (interface b r) h = tt
    type_numbers (interface_is b a) h = names_iid a h
    type_numbers (array b x y t) h = (names_size_lem x h.0, names_size_lem y h.1, type_numbers t h.2)
    type_numbers (sized b x y) h = (names_size_lem x h.0, names_size_lem y h.1)

    param_numbers : (x : Param R) → NumbersRule (map (map_param g) ps) (param_type (map_param g x)) → NumbersRule (map (map_param f) ps) (param_type (map_param f x))
    unfolding map_param param_type
    param_numbers (param h t) r = type_numbers t r

    params_numbers : (xs : List (Param R)) → All (λ x. NumbersRule (map (map_param g) ps) (param_type x)) (map (map_param g) xs)
        → All (λ x. NumbersRule (map (map_param f) ps) (param_type x)) (map (map_param f) xs)
    params_numbers [] h = tt
    params_numbers (x ∷ xs) h = (param_numbers x h.0, params_numbers xs h.1)

  arguments_rule : (ps : List (Param R)) → All (ArgumentRule minor n) (map (map_param g) ps) → All (ParamRefs There) ps → Served (any_of new_param ps) → All (ArgumentRule minor' m) (map (map_param f) ps)
  arguments_rule [] r a k = tt
  arguments_rule (x ∷ ps) r a k =
      (argument_rule x r.0 a.0 (λ e. k (any_first new_param x ps e)), arguments_rule ps r.1 a.1 (λ e. k (any_rest new_param x ps e)))

  method_rule_lem : (x : Method R) → MethodRule minor n (map_method g x) → MethodRefs There x → Served (new_method x) → MethodRule minor' m (map_method f x)
  unfolding map_method map_signature new_method params_of
  method_rule_lem (method h w (signature ps x)) r a k =
      let s = r.2 in (
        r.0,
        r.1,
        record {
          arguments = arguments_rule ps s.arguments a.0 (λ e. k (any_left new_param ps (x ∷ []) e));
          result = result_rule x s.result a.1 (λ e. k (any_right new_param ps (x ∷ []) (any_first new_param x [] e)));
          numbers = params_numbers ps ps s.numbers;
          result_numbers = param_numbers ps x s.result_numbers;
          result_kind = rw (flags_same f g x, result_same f g x) s.result_kind;
        },
      )

  methods_rule : (ms : List (Method R)) → All (MethodRule minor n) (map (map_method g) ms) → All (MethodRefs There) ms → Served (any_of new_method ms) → All (MethodRule minor' m) (map (map_method f) ms)
  methods_rule [] r a k = tt
  methods_rule (x ∷ ms) r a k = (method_rule_lem x r.0 a.0 (λ e. k (any_first new_method x ms e)), methods_rule ms r.1 a.1 (λ e. k (any_rest new_method x ms e)))

  parent_rule : (up : Option R) → ParentRefs There up → ParentRule m (map_parent f up)
  unfolding map_parent
  parent_rule none a = tt
  parent_rule (some r) a = a

  pub descriptor_rule_lem : (d : Descriptor R) → DescriptorRule minor n (map_descriptor g d) → AllRefs There d → Served (new_descriptor d) → DescriptorRule minor' m (map_descriptor f d)
  unfolding map_descriptor new_descriptor methods_of
  descriptor_rule_lem (descriptor up ms ks h) r a k =
      let e = length_same f g (map_method f) (map_method g) ms in
      let fl = method_flags_same f g ms in
      let na = names_same f g ms in
      record {
        parent = parent_rule up a.0;
        few_methods = rw e r.few_methods;
        methods = methods_rule ms r.methods a.1 k;
        few_constants = r.few_constants;
        constants = r.constants;
        reserved = r.reserved;
        function = λ z. r.function (newer z);
        constructors = λ i j p q x y. r.constructors i j (rw e at p) (rw e at q) (rw (fl i) at x) (rw (fl j) at y);
        pairs = λ i j p q x y z. r.pairs i j (rw e at p) (rw e at q) (rw (fl i) at x) (rw (fl j) at y) (sym (na i) ∙ z ∙ na j);
      }
