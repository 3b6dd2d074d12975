-- Records in turn, cut in two: what a writer that goes record by record uses.
-- Assumes nothing.
use mathlib.Core.Path.{◌≡◌, refl, sym, ap, ◌∙◌}
use mathlib.Core.List.{List, [], ◌∷◌, ◌++◌, append_assoc}
use Prim.Native.Nat.{ℕ, ◌+◌}
use native.Mathlib.Omega.{arith}
use Rattle.reader.specs.Values.{Method, Constant, Entry}
use Rattle.meaning.specs.Normal.Size.{sum, method_name_size, constant_name_size, entry_size}
use Rattle.meaning.specs.Normal.Record.{run, method_bytes, name_after, methods_bytes, constant_bytes, constants_bytes, constants_from}
use Rattle.meaning.specs.Normal.Normal.{entry_pool, pool_bytes, entry_bytes, directory_bytes}

pub sum-append : {X : Type 0} (f : X → ℕ) (xs ys : List X) → sum f (xs ++ ys) ≡ sum f xs + sum f ys
unfolding sum
sum-append f [] ys = omega arith
sum-append f (x ∷ xs) ys = omega (arith, sum-append f xs ys)

pub run-append : {X : Type 0} (f : X → List ℕ) (xs ys : List X) → run f (xs ++ ys) ≡ run f xs ++ run f ys
unfolding run
run-append f [] ys = refl
run-append f (x ∷ xs) ys = ap (λ (t : List ℕ). f x ++ t) (run-append f xs ys) ∙ sym (append_assoc (f x) (run f xs) (run f ys))

-- records whose writing goes by a pool pointer: each moves it on by its size
module _ {X : Type 0} (one : ℕ → X → List ℕ) (all : ℕ → List X → List ℕ) (size : X → ℕ)
    (none : (q : ℕ) → all q [] ≡ []) (cons : (q : ℕ) (x : X) (xs : List X) → all q (x ∷ xs) ≡ one q x ++ all (q + size x) xs) where
  moved_append : (q : ℕ) (xs ys : List X) → all q (xs ++ ys) ≡ all q xs ++ all (q + sum size xs) ys
  unfolding sum
  moved_append q [] ys =
      let e : q ≡ q + 0 = omega arith in
      ap (λ (p : ℕ). all p ys) e ∙ ap (λ (t : List ℕ). t ++ all (q + 0) ys) (sym (none q))
  moved_append q (x ∷ xs) ys =
      let e : q + size x + sum size xs ≡ q + (size x + sum size xs) = omega arith in
      let c = sym (cons q x xs) in
      cons q x (xs ++ ys)
      ∙ ap (λ (t : List ℕ). one q x ++ t) (moved_append (q + size x) xs ys)
      ∙ sym (append_assoc (one q x) (all (q + size x) xs) (all (q + size x + sum size xs) ys))
      ∙ (λ i. c i ++ all (e i) ys)

pub constants_append : (q : ℕ) (cs ds : List Constant) → constants_bytes q (cs ++ ds) ≡ constants_bytes q cs ++ constants_bytes (q + sum constant_name_size cs) ds
unfolding constants_bytes name_after constant_name_size
constants_append = moved_append constant_bytes constants_bytes constant_name_size (λ q. refl) (λ q c cs. refl)

module _ {R : Type 0} where
  pub methods_append : (f : R → ℕ) (q : ℕ) (ms ns : List (Method R)) → methods_bytes f q (ms ++ ns) ≡ methods_bytes f q ms ++ methods_bytes f (constants_from q ms) ns
  unfolding methods_bytes name_after method_name_size constants_from
  methods_append f = moved_append (method_bytes f) (methods_bytes f) method_name_size (λ q. refl) (λ q m ms. refl)

  pub pool_append : (f : R → ℕ) (q : ℕ) (us vs : List (Entry R)) → pool_bytes f q (us ++ vs) ≡ pool_bytes f q us ++ pool_bytes f (q + sum entry_size us) vs
  unfolding pool_bytes
  pool_append f = moved_append (entry_pool f) (pool_bytes f) entry_size (λ q. refl) (λ q u us. refl)

  pub directory_append : (q : ℕ) (us vs : List (Entry R)) → directory_bytes q (us ++ vs) ≡ directory_bytes q us ++ directory_bytes (q + sum entry_size us) vs
  unfolding directory_bytes
  directory_append = moved_append entry_bytes directory_bytes entry_size (λ q. refl) (λ q u us. refl)
