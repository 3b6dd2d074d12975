-- Whether two descriptors are equal, references being keys: document 01, "Descriptors are compared by their meaning".
-- Assumes nothing.
use Rattle.std.specs.Prelude.{◌≡◌, refl, Bool, true, false, List, [], ◌∷◌, ℕ}
use Rattle.std.proofs.Math.Option.{Option, none, some}
use mathlib.Core.HLevel.{Discrete}
use Rattle.std.proofs.Math.Decide.{ℕ_discrete}
use Rattle.std.proofs.Common.{arith}
use Rattle.key.specs.Key.{Key, Key-discrete}
use Rattle.reader.specs.Values.{Ty-discrete, Param, Param-discrete, Signature-discrete, Method, Method-discrete, Constant-discrete, Descriptor, Descriptor-discrete}

module _ {X : Type 0} where
  unfoldable pub cons? : {x y : X} {xs ys : List X} → Dec (x ≡ y) → Dec (xs ≡ ys) → Dec (◌≡◌ {A = List X} (x ∷ xs) (y ∷ ys))
  cons? (yes p) (yes q) = yes (λ i. p i ∷ q i)
  cons? (yes p) (no f) = no (λ e. f (cc))
  cons? (no f) d = no (λ e. f (cc))

  unfoldable pub list? : Discrete X → Discrete (List X)
  list? d [] [] = yes refl
  list? d [] (y ∷ ys) = no (λ e. let z : ◌≡◌ {A = ℕ} 0 1 = cc in omega arith)
  list? d (x ∷ xs) [] = no (λ e. let z : ◌≡◌ {A = ℕ} 0 1 = cc in omega arith)
  list? d (x ∷ xs) (y ∷ ys) = cons? (d x y) (list? d xs ys)

  unfoldable pub some? : {x y : X} → Dec (x ≡ y) → Dec (◌≡◌ {A = Option X} (some x) (some y))
  some? (yes p) = yes (λ i. some (p i))
  some? (no f) = no (λ e. f (cc))

  unfoldable pub option? : Discrete X → Discrete (Option X)
  option? d none none = yes refl
  option? d none (some y) = no (λ e. let z : ◌≡◌ {A = ℕ} 0 1 = cc in omega arith)
  option? d (some x) none = no (λ e. let z : ◌≡◌ {A = ℕ} 0 1 = cc in omega arith)
  option? d (some x) (some y) = some? (d x y)

unfoldable pub word? : Discrete (List ℕ)
word? = list? ℕ_discrete

unfoldable pub key? : Discrete Key
key? = Key-discrete word?

unfoldable pub param? : Discrete (Param Key)
param? = Param-discrete ℕ_discrete (Ty-discrete ℕ_discrete key?)

unfoldable pub method? : Discrete (Method Key)
method? = Method-discrete ℕ_discrete word? (Signature-discrete (list? param?) param?)

unfoldable pub descriptor? : Discrete (Descriptor Key)
descriptor? = Descriptor-discrete (option? key?) (list? method?) (list? (Constant-discrete word? ℕ_discrete)) ℕ_discrete

unfoldable pub decided : {P : Type 0} → Dec P → Bool
decided (yes p) = true
decided (no f) = false

unfoldable pub same_descriptor : Descriptor Key → Descriptor Key → Bool
same_descriptor d e = decided (descriptor? d e)
