-- What the comparison of two records promises, one in each of two accepted files' pools.
-- A table holds for each row the first row of the same key. The reference r of a file whose rows start at row a has row a + r - 1.
-- Assumes nothing.
use Rattle.std.specs.Prelude.{◌≡◌, Bool, true, false, List, map, ℕ, ◌+◌, ◌-◌, ◌≤◌, length, get_or}
use Rattle.number.specs.Limits.{file_limit, row_limit}
use Rattle.reader.specs.Values.{Ty, Param, Signature, signature, Method, method_name, Constant, constant_name, Descriptor, parent_of, methods_of, constants_of, interface_flags}
use Rattle.reader.specs.Records.{ShowsByte, ShowsField, Run, ShowsType, ShowsParam, ShowsMethod, ShowsConstant, ShowsDescriptor}
use Rattle.reader.specs.Rules.{All, Identifier}
use Rattle.reader.specs.Layout.{Stands, Rows}
use Rattle.meaning.specs.Meaning.{map_ty, map_param, map_signature, map_method, map_parent}
use Rattle.meaning.specs.Refs.{TypeRefs, ParamRefs, MethodRefs, ParentRefs}

-- ---- references

-- what a reference stands for: two are the same key exactly when this is the same number
unfoldable pub row_of : List ℕ → ℕ → ℕ → ℕ
row_of first a r = get_or first (a + r - 1) 0

-- the reference has a row in the table
pub record Rowed (a r : ℕ) : Type 0 where
  pub from : 1 ≤ r
  pub within : a + r ≤ row_limit

-- ---- records at p of the pool s that end before e: their references have rows, their names are identifiers

pub record HasType (s : List ℕ) (a p : ℕ) (t : Ty ℕ) (e : ℕ) : Type 0 where
  pub shown : ShowsType s p t e
  pub rows : TypeRefs (Rowed a) t

pub record HasParam (s : List ℕ) (a p : ℕ) (x : Param ℕ) (e : ℕ) : Type 0 where
  pub shown : ShowsParam s p x e
  pub rows : ParamRefs (Rowed a) x

-- c arguments and the result
pub record HasSignature (s : List ℕ) (a c p : ℕ) (x : Signature ℕ) (e : ℕ) : Type 0 where
  pub arguments : List (Param ℕ)
  pub result : Param ℕ
  pub parts : x ≡ signature arguments result
  pub mid : ℕ
  pub before : Rows (HasParam s a) c p arguments mid
  pub last : HasParam s a mid result e

pub record MethodFits (a : ℕ) (m : Method ℕ) : Type 0 where
  pub name : Identifier (method_name m)
  pub rows : MethodRefs (Rowed a) m

pub record HasMethod (s : List ℕ) (a p : ℕ) (m : Method ℕ) (e : ℕ) : Type 0 where
  pub shown : ShowsMethod s p m e
  pub fits : MethodFits a m

pub record HasConstant (s : List ℕ) (p : ℕ) (k : Constant) (e : ℕ) : Type 0 where
  pub shown : ShowsConstant s p k e
  pub name : Identifier (constant_name k)

pub record HasDescriptor (s : List ℕ) (a p : ℕ) (d : Descriptor ℕ) (e : ℕ) : Type 0 where
  pub shown : ShowsDescriptor s p d e
  pub parent : ParentRefs (Rowed a) (parent_of d)
  pub methods : All (MethodFits a) (methods_of d)
  pub constants : All (λ k. Identifier (constant_name k)) (constants_of d)

-- what stands after a descriptor's methods: constant count, constants, flags
pub record HasTail (s : List ℕ) (p : ℕ) (d : Descriptor ℕ) (e : ℕ) : Type 0 where
  pub count : ShowsField 2 s p (length (constants_of d))
  pub mid : ℕ
  pub before : Run (HasConstant s) (p + 2) (constants_of d) mid
  pub flags : ShowsByte s mid (interface_flags d)
  pub ends : e ≡ mid + 1

-- ---- what is asked: a record at p of the one pool, and one at q of the other

pub record Ready {X : Type 0} (s t : List ℕ) (P Q : ℕ → X → ℕ → Type 0) (p q : ℕ) : Type 0 where
  pub one : Stands (P p)
  pub two : Stands (Q q)
  pub small : length s ≤ file_limit
  pub small_other : length t ≤ file_limit

-- ---- what is answered by a number: where the one record ends, if A; the other then has the same size

pub record Met (A : Type 0) (p q e d r : ℕ) : Type 0 where
  pub fact : A
  pub some : 1 ≤ r
  pub after : p ≤ r
  pub ends : r ≡ e
  pub level : q + (r - p) ≡ d

-- and 0 if not A
pub data Matched (A : Type 0) (p q e d r : ℕ) : Type 0 where
  alike : Met A p q e d r → Matched A p q e d r
  apart : (A → ⊥) → r ≡ 0 → Matched A p q e d r

-- A being that f of the one record is g of the other
pub record Matches {X Z : Type 0} (P Q : ℕ → X → ℕ → Type 0) (f g : X → Z) (p q r : ℕ) : Type 0 where
  pub each : (x : X) (e : ℕ) → P p x e → (y : X) (d : ℕ) → Q q y d → Matched (f x ≡ g y) p q e d r

module _ (s t first : List ℕ) (n : ℕ) where
  abbrev pub TypesMatch : ℕ → ℕ → ℕ → Type 0
  TypesMatch p q r = Matches (HasType s 0) (HasType t n) (map_ty (row_of first 0)) (map_ty (row_of first n)) p q r

  abbrev pub ParamMatches : ℕ → ℕ → ℕ → Type 0
  ParamMatches p q r = Matches (HasParam s 0) (HasParam t n) (map_param (row_of first 0)) (map_param (row_of first n)) p q r

  abbrev pub ParamsMatch : ℕ → ℕ → ℕ → ℕ → Type 0
  ParamsMatch c p q r = Matches (Rows (HasParam s 0) c) (Rows (HasParam t n) c) (map (map_param (row_of first 0))) (map (map_param (row_of first n))) p q r

  abbrev pub SignaturesMatch : ℕ → ℕ → ℕ → ℕ → Type 0
  SignaturesMatch c p q r = Matches (HasSignature s 0 c) (HasSignature t n c) (map_signature (row_of first 0)) (map_signature (row_of first n)) p q r

  abbrev pub MethodMatches : ℕ → ℕ → ℕ → Type 0
  MethodMatches p q r = Matches (HasMethod s 0) (HasMethod t n) (map_method (row_of first 0)) (map_method (row_of first n)) p q r

  abbrev pub MethodsMatch : ℕ → ℕ → ℕ → ℕ → Type 0
  MethodsMatch c p q r = Matches (Rows (HasMethod s 0) c) (Rows (HasMethod t n) c) (map (map_method (row_of first 0))) (map (map_method (row_of first n))) p q r

-- a constant has no references
abbrev pub own_constant : Constant → Constant
own_constant k = k

abbrev pub ConstantMatches : List ℕ → List ℕ → ℕ → ℕ → ℕ → Type 0
ConstantMatches s t p q r = Matches (HasConstant s) (HasConstant t) own_constant own_constant p q r

abbrev pub ConstantsMatch : List ℕ → List ℕ → ℕ → ℕ → ℕ → ℕ → Type 0
ConstantsMatch s t c p q r = Matches (Rows (HasConstant s) c) (Rows (HasConstant t) c) (map own_constant) (map own_constant) p q r

-- ---- what is answered by true or false

pub data Decides (A : Type 0) (b : Bool) : Type 0 where
  holds : A → b ≡ true → Decides A b
  fails : (A → ⊥) → b ≡ false → Decides A b

-- whether A, of the two records
pub record Decided {X : Type 0} (P Q : ℕ → X → ℕ → Type 0) (A : X → X → Type 0) (p q : ℕ) (b : Bool) : Type 0 where
  pub each : (x : X) (e : ℕ) → P p x e → (y : X) (d : ℕ) → Q q y d → Decides (A x y) b

-- f gives it of the two records
pub record Compares {X : Type 0} (P Q : ℕ → X → ℕ → Type 0) (f : X → X → Bool) (p q : ℕ) (b : Bool) : Type 0 where
  pub each : (x : X) (e : ℕ) → P p x e → (y : X) (d : ℕ) → Q q y d → b ≡ f x y

-- constants and flags of two descriptors
pub record SameTail (d e : Descriptor ℕ) : Type 0 where
  pub constants : constants_of d ≡ constants_of e
  pub flags : interface_flags d ≡ interface_flags e

-- what follows their parents
pub record SameMembers (g h : ℕ → ℕ) (d e : Descriptor ℕ) : Type 0 where
  pub methods : map (map_method g) (methods_of d) ≡ map (map_method h) (methods_of e)
  pub tail : SameTail d e

pub record SameParents (g h : ℕ → ℕ) (d e : Descriptor ℕ) : Type 0 where
  pub parents : map_parent g (parent_of d) ≡ map_parent h (parent_of e)
