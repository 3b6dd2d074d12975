-- Entries and records in turn, cut in two: what a writer that goes one by one uses.
-- Assumes nothing.
use mathlib.Core.Path.{◌≡◌, refl, sym, ap, ◌∙◌}
use mathlib.Core.Bool.{Bool}
use mathlib.Core.List.{List, [], ◌∷◌, ◌++◌, append_assoc}
use Prim.Native.Nat.{ℕ, ◌+◌}
use native.Mathlib.Omega.{arith}
use lib.ListN.{length, length-append}
use Rattle.reader.specs.Values.{Method, Constant, Entry}
use Rattle.meaning.specs.Normal.Record.{method_bytes, constant_bytes}
use Rattle.meaning.specs.Stock.Uses.{entry_words, words_of}
use Rattle.meaning.specs.Stock.Pool.{entry_pieces, pieces_of, pool_size}
use Rattle.meaning.specs.Stock.Form.{run_from, methods_with, constants_with, pool_with, entry_with, directory_with}
use Rattle.meaning.proofs.Stock.Pools.{entry_words_lem, words_pieces, size_append, pool_append}

-- ---- records

from_append : {X : Type 0} (one : ℕ → X → List ℕ) (u : ℕ) (xs ys : List X) → run_from one u (xs ++ ys) ≡ run_from one u xs ++ run_from one (u + length xs) ys
unfolding run_from
from_append one u [] ys = let e : u ≡ u + 0 = omega arith in ap (λ (k : ℕ). run_from one k ys) e
from_append one u (x ∷ xs) ys =
    let e : u + 1 + length xs ≡ u + length (x ∷ xs) = omega arith in
    let a = from_append one (u + 1) xs ys ∙ ap (λ (k : ℕ). run_from one (u + 1) xs ++ run_from one k ys) e in
    ap (λ (t : List ℕ). one u x ++ t) a ∙ sym (append_assoc (one u x) (run_from one (u + 1) xs) (run_from one (u + length (x ∷ xs)) ys))

pub constants_append : (at : ℕ → ℕ) (u : ℕ) (cs ds : List Constant) → constants_with at u (cs ++ ds) ≡ constants_with at u cs ++ constants_with at (u + length cs) ds
unfolding constants_with
constants_append at = from_append (λ k c. constant_bytes (at k) c)

pub methods_append : {R : Type 0} (f : R → ℕ) (at : ℕ → ℕ) (u : ℕ) (ms ns : List (Method R)) → methods_with f at u (ms ++ ns) ≡ methods_with f at u ms ++ methods_with f at (u + length ms) ns
unfolding methods_with
methods_append f at = from_append (λ k m. method_bytes f (at k) m)

-- ---- entries

module _ {R : Type 0} where
  pub uses_append : (us vs : List (Entry R)) → words_of (us ++ vs) ≡ words_of us ++ words_of vs
  unfolding words_of
  uses_append [] vs = refl
  uses_append (e ∷ us) vs = ap (λ (ws : List (List ℕ)). entry_words e ++ ws) (uses_append us vs) ∙ sym (append_assoc (entry_words e) (words_of us) (words_of vs))

  pub pieces_append : (us vs : List (Entry R)) → pieces_of (us ++ vs) ≡ pieces_of us ++ pieces_of vs
  unfolding pieces_of
  pieces_append [] vs = refl
  pieces_append (e ∷ us) vs = (λ i. entry_pieces e ++ pieces_append us vs i) ∙ sym (append_assoc (entry_pieces e) (pieces_of us) (pieces_of vs))

  -- the pool
  pub rows_append : (f : R → ℕ) (at : ℕ → ℕ) (kept : ℕ → Bool) (u : ℕ) (us vs : List (Entry R))
      → pool_with f at kept u (pieces_of (us ++ vs)) ≡ pool_with f at kept u (pieces_of us) ++ pool_with f at kept (u + length (words_of us)) (pieces_of vs)
  rows_append f at kept u us vs =
      ap (pool_with f at kept u) (pieces_append us vs) ∙ pool_append f at kept u (pieces_of us) (pieces_of vs)
      ∙ ap (λ (ws : List (List ℕ)). pool_with f at kept u (pieces_of us) ++ pool_with f at kept (u + length ws) (pieces_of vs)) (words_pieces us)

  pub directory_append : (at : ℕ → ℕ) (kept : ℕ → Bool) (u q : ℕ) (us vs : List (Entry R))
      → directory_with at kept u q (us ++ vs) ≡ directory_with at kept u q us ++ directory_with at kept (u + length (words_of us)) (q + pool_size kept u (pieces_of us)) vs
  unfolding directory_with words_of pieces_of pool_size
  directory_append at kept u q [] vs =
      let a : u ≡ u + 0 = omega arith in
      let b : q ≡ q + 0 = omega arith in
      λ i. directory_with at kept (a i) (b i) vs
  directory_append at kept u q (e ∷ us) vs =
      let n = u + length (entry_words e) in
      let p = q + pool_size kept u (entry_pieces e) in
      let row = entry_with at kept u q e in
      let w = ap (λ (ws : List (List ℕ)). pool_size kept (u + length ws) (pieces_of us)) (entry_words_lem e) in
      let a : n + length (words_of us) ≡ u + length (entry_words e ++ words_of us) = omega (arith, length-append (entry_words e) (words_of us)) in
      let b : p + pool_size kept n (pieces_of us) ≡ q + pool_size kept u (entry_pieces e ++ pieces_of us) = omega (arith, size_append kept u (entry_pieces e) (pieces_of us), w) in
      ap (λ (t : List ℕ). row ++ t) (directory_append at kept n p us vs ∙ (λ i. directory_with at kept n p us ++ directory_with at kept (a i) (b i) vs))
      ∙ sym (append_assoc row (directory_with at kept n p us) (directory_with at kept (u + length (entry_words e ++ words_of us)) (q + pool_size kept u (entry_pieces e ++ pieces_of us)) vs))
