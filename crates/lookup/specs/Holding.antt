-- Answers on an accepted file that is laid out as l says: what f gives of its entries.
-- Assumes nothing.
use Rattle.std.specs.Prelude.{◌≡◌, List, ℕ, drop}
use Rattle.reader.specs.Values.{Entry, Method, method_name, Constant, constant_name, Descriptor, methods_of, constants_of}
use Rattle.reader.specs.Records.{ShowsMethod, ShowsConstant, ShowsDescriptor}
use Rattle.reader.specs.Rules.{All, Identifier}
use Rattle.reader.specs.declared.Layout.{Layout}
use Rattle.reader.specs.Layout.{LaidOut}

pub record Answers {X : Type 0} (s : List ℕ) (l : Layout) (f : List (Entry ℕ) → X) (r : X) : Type 0 where
  pub each : (es : List (Entry ℕ)) → LaidOut s l es → r ≡ f es

-- the pool of such a file is lent beside it
abbrev pub PoolOf : List ℕ → Layout → List ℕ → Type 0
PoolOf s l pool = pool ≡ drop l.pool s

-- a method at p, whose name is an identifier
pub record NamedMethod (s : List ℕ) (p : ℕ) (m : Method ℕ) (e : ℕ) : Type 0 where
  pub shown : ShowsMethod s p m e
  pub name : Identifier (method_name m)

-- a constant at p, whose name is an identifier
pub record NamedConstant (s : List ℕ) (p : ℕ) (c : Constant) (e : ℕ) : Type 0 where
  pub shown : ShowsConstant s p c e
  pub name : Identifier (constant_name c)

-- a descriptor at p, the names of whose methods and constants are identifiers
pub record NamedDescriptor (s : List ℕ) (p : ℕ) (d : Descriptor ℕ) (e : ℕ) : Type 0 where
  pub shown : ShowsDescriptor s p d e
  pub methods : All (λ m. Identifier (method_name m)) (methods_of d)
  pub constants : All (λ c. Identifier (constant_name c)) (constants_of d)
