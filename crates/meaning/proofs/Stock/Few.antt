-- How many uses there are: no record with a name takes fewer than 7 bytes.
-- Assumes nothing.
use mathlib.Core.List.{List, [], ◌∷◌, map}
use mathlib.Core.Option.{Option, none, some}
use Prim.Native.Nat.{ℕ, ◌+◌, ◌*◌, ◌≤◌}
use native.Mathlib.Omega.{arith}
use lib.ListN.{length, length-append, length-map}
use Rattle.number.specs.Choice.{when◌then◌else◌, ◌=?◌}
use Rattle.number.proofs.Choice.{both}
use Rattle.key.specs.Key.{key}
use Rattle.reader.specs.Values.{Ty, simple, interface, interface_is, array, sized, param, Method, method, signature, method_name, Constant, constant, constant_name, Descriptor, descriptor, Entry, entry}
use Rattle.meaning.specs.Normal.Size.{sum, type_size, param_size, method_size, value_width, constant_size, descriptor_size}
use Rattle.meaning.specs.Stock.Uses.{names_of, own_words, space_words, key_words, entry_words, words_of, own_body, body_length}

type_least : {R : Type 0} (t : Ty R) → 1 ≤ type_size t
unfolding type_size
type_least (simple b) = omega arith
type_least (interface b r) = omega arith
type_least (interface_is b a) = omega arith
type_least (array b x y t) = omega arith
type_least (sized b x y) = omega arith

method_least : {R : Type 0} (m : Method R) → 7 ≤ method_size m
unfolding method_size param_size
method_least (method f w (signature ps (param g t))) = omega (arith, type_least t)

constant_least : (c : Constant) → 7 ≤ constant_size c
unfolding constant_size value_width
constant_least (constant w k v) = both (λ (n : ℕ). 7 ≤ 5 + n) (k =? 2) 4 (when k =? 6 then 4 else 2) (λ _. omega arith) (λ _. both (λ (n : ℕ). 7 ≤ 5 + n) (k =? 6) 4 2 (λ _. omega arith) (λ _. omega arith))

sum_least : {X : Type 0} (size : X → ℕ) → ((x : X) → 7 ≤ size x) → (xs : List X) → 7 * length xs ≤ sum size xs
unfolding sum
sum_least size h [] = omega arith
sum_least size h (x ∷ xs) = omega (arith, h x, sum_least size h xs)

space_few : (v : List ℕ) → length (space_words v) ≤ 1
unfolding space_words
space_few [] = omega arith
space_few (b ∷ v) = omega arith

module _ {R : Type 0} where
  own_least : (d : Option (Descriptor R)) → 7 * length (own_words d) ≤ own_body d
  unfolding own_words own_body names_of descriptor_size
  own_least none = omega arith
  own_least (some (descriptor up ms ks f)) =
      omega (arith, length-append (map method_name ms) (map constant_name ks), length-map ms method_name, length-map ks constant_name, sum_least method_size method_least ms, sum_least constant_size constant_least ks)

  entry_least : (e : Entry R) → 7 * length (entry_words e) ≤ body_length e
  unfolding entry_words key_words body_length
  entry_least (entry (key v w) i d) = omega (arith, length-append (space_words v) (own_words d), space_few v, own_least d)

  pub few_uses : (us : List (Entry R)) → 7 * length (words_of us) ≤ sum body_length us
  unfolding words_of sum
  few_uses [] = omega arith
  few_uses (e ∷ us) = omega (arith, length-append (entry_words e) (words_of us), entry_least e, few_uses us)
