-- Sizes that are sums over the entries of a union never fall when facts are added.
-- Assumes nothing.
use mathlib.Core.Path.{◌≡◌, refl}
use mathlib.Core.List.{List}
use mathlib.Core.Option.{Option, none, some}
use Prim.Native.Nat.{ℕ, ◌+◌, ◌≤◌}
use native.Mathlib.Omega.{arith}
use native.Mathlib.Decide.{ℕ_discrete}
use lib.ListN.{length}
use Rattle.key.specs.Key.{Key}
use Rattle.reader.specs.Values.{Descriptor, Entry, entry}
use Rattle.meaning.specs.Facts.Facts.{Within, keys_of}
use Rattle.meaning.specs.Facts.Union.{iid_in, descriptor_for, entry_for, union}
use Rattle.meaning.specs.Facts.Conditions.{Agree}
use Rattle.meaning.specs.Facts.Link.{Grows}
use Rattle.meaning.proofs.Facts.Sets.{weigh, weigh-map, weigh_ones, weigh-Sub}
use Rattle.meaning.proofs.Facts.Sorts.{In-sort, sort-In}
use Rattle.meaning.proofs.Facts.Orders.{ordered}
use Rattle.meaning.proofs.Facts.Unions.{iid_more, descriptor_more, sorted_keys, sorted_Distinct}
use Rattle.meaning.proofs.Facts.Agrees.{Agree-Sound}

-- an entry weighs no less with an IID in place of none, and no less with a descriptor in place of none
pub record Rises (w : Entry Key → ℕ) : Type 0 where
  pub iid : (k : Key) (i : ℕ) (d : Option (Descriptor Key)) → w (entry k 0 d) ≤ w (entry k i d)
  pub descriptor : (k : Key) (i : ℕ) (d : Descriptor Key) → w (entry k i none) ≤ w (entry k i (some d))

module _ (w : Entry Key → ℕ) (r : Rises w) where
  more_iid : (k : Key) (i j : ℕ) (d : Option (Descriptor Key)) → ((i ≡ 0 → ⊥) → j ≡ i) → w (entry k i d) ≤ w (entry k j d)
  more_iid k i j d f = elim (ℕ_discrete i 0) [ yes z ↦ rw z (r.iid k j d) | no n ↦ rw (f n) (omega arith) ]

  more_descriptor : (k : Key) (i : ℕ) (c d : Option (Descriptor Key)) → ((x : Descriptor Key) → c ≡ some x → d ≡ some x) → w (entry k i c) ≤ w (entry k i d)
  more_descriptor k i none none f = omega arith
  more_descriptor k i none (some x) f = r.descriptor k i x
  more_descriptor k i (some x) d f = rw (f x refl) (omega arith)

  module _ (es fs : List (Entry Key)) (v : Within es fs) (a : Agree fs) where
    more_entry : (k : Key) → w (entry_for es k) ≤ w (entry_for fs k)
    unfolding entry_for
    more_entry k =
        let s = Agree-Sound fs a in
        let p = more_iid k (iid_in es k) (iid_in fs k) (descriptor_for es k) (iid_more es fs v s.iids k) in
        let q = more_descriptor k (iid_in fs k) (descriptor_for es k) (descriptor_for fs k) (descriptor_more es fs v s.descriptors k) in
        omega (arith, p, q)

    pub union_weighs : weigh w (union es) ≤ weigh w (union fs)
    unfolding union
    union_weighs =
        let p = weigh-map w (entry_for es) (sorted_keys es) in
        let q = weigh-map w (entry_for fs) (sorted_keys fs) in
        let t = weigh-Sub (λ k. w (entry_for es k)) (λ k. w (entry_for fs k)) more_entry (sorted_keys es) (sorted_keys fs) (sorted_Distinct es)
        (λ k i. In-sort (ordered (iid_in fs)) k (keys_of fs) (v.keys k (sort-In (ordered (iid_in es)) k (keys_of es) i))) in
        omega (arith, p, q, t)

-- a size that is a sum grows
pub sum_Grows : (size : List (Entry Key) → ℕ) (base : ℕ) (w : Entry Key → ℕ) → Rises w → ((es : List (Entry Key)) → size (union es) ≡ base + weigh w (union es)) → Grows size
sum_Grows size base w r e es fs v a b = omega (arith, e es, e fs, union_weighs w r es fs v b)

-- and so does the number of entries
pub count_Grows : Grows length
count_Grows es fs v a b =
    omega (arith, weigh_ones (union es), weigh_ones (union fs), union_weighs (λ _. 1) (record { iid = λ k i d. omega arith; descriptor = λ k i d. omega arith }) es fs v b)
