-- The laws of linking and normalising, on entries. `size` is the length of the normal form of a union.
-- Assumes nothing.
use Rattle.std.specs.declared.cmp.Ordering.TheVariants.{Less}
use mathlib.Core.Path.{◌≡◌, sym, ap, ◌∙◌, subst}
use mathlib.Core.Logic.{◌↔◌}
use mathlib.Core.List.{List, [], ◌++◌, append-nil}
use mathlib.Core.Option.{some}
use Prim.Native.Nat.{ℕ, ◌≤◌, ◌<◌}
use native.Mathlib.Omega.{arith}
use lib.ListN.{length}
use Rattle.number.proofs.Choice.{both, no_lt, is_lt, from_yes_lt, from_not_lt}
use Rattle.key.specs.Key.{Key}
use Rattle.reader.specs.Values.{Entry, entry_key}
use Rattle.meaning.specs.Facts.Facts.{In, Sub, keys_of, iids_of, Within, MeanSame}
use Rattle.meaning.specs.Facts.Union.{iid_in, compare_by, union}
use Rattle.meaning.specs.Facts.Conditions.{TwoIids, SharedIid, parent_in, climb, is_some, endless, TooLong, Free, Fine}
use Rattle.meaning.specs.Facts.Valid.{entry_at, Valid, IidOrder}
use Rattle.meaning.specs.Facts.Link.{Linked, stopped, joined, link_entries, normal_entries, StoppedBy, number_only, joined_of, and_then, Grows}
use Rattle.meaning.proofs.Facts.Sets.{In-left, Sub-same, Sub-twice}
use Rattle.meaning.proofs.Facts.Said.{Within-Sub, Within-swap}
use Rattle.meaning.proofs.Facts.Unions.{iid_fact}
use Rattle.meaning.proofs.Facts.Tests.{Tests-same, chain_enough, chain_closed, endless_test}
use Rattle.meaning.proofs.Facts.Agrees.{Single-iids, shared}
use Rattle.meaning.proofs.Facts.Valids.{valid_Sound, valid_Agree}
use Rattle.meaning.proofs.Facts.Same.{mean_union, union_mean}
use Rattle.meaning.proofs.Facts.Closed.{Closed-parents, Valid-few}
use Rattle.meaning.proofs.Facts.Links.{Fine-joined, joined-Fine, by_stopped, stopped_by, joined_equal, stopped_equal, not_both, not_over}
use Rattle.meaning.proofs.Facts.Swaps.{same_facts, says_one}
use Rattle.meaning.proofs.Facts.Groups as groups
-- of any entries whose facts agree and need no others: their union is valid, says the same and is its own union
pub use Rattle.meaning.proofs.Facts.Closed.{Closed, Closed-Valid, Closed-both, union-Valid, union_says, union_again}
-- a file's union has its entries
pub use Rattle.meaning.proofs.Facts.Same.{union_means}
-- a union by positions; a list of keys that rises and has the keys of es is these, sorted
pub use Rattle.meaning.proofs.Facts.Sorted.{union_order, union_sorted, union_unique, union_few, sorted_unique}
-- a size that is a sum over the entries never falls when facts are added
pub use Rattle.meaning.proofs.Facts.Sizes.{Rises, sum_Grows}

module _ (size : List (Entry Key) → ℕ) where
  -- ---- exactly when, and with which number and place

  module _ (A B : List (Entry Key)) (b : Valid B) where
    -- joined, to the union, exactly when none of the six conditions holds
    pub joined_exactly : (U : List (Entry Key)) → (link_entries size A B ≡ joined U) ↔ (Fine size (A ++ B) × (U ≡ union (A ++ B)))
    joined_exactly U = (joined-Fine size A B (valid_Sound B b) U, λ r. Fine-joined size A B r.0 ∙ ap (λ (u : List (Entry Key)). joined u) (sym r.1))

    -- refused, with the lowest number whose condition holds and the lowest index of A that applies
    pub stopped_exactly : (n q : ℕ) → (link_entries size A B ≡ stopped n q) ↔ StoppedBy size A (A ++ B) n q
    stopped_exactly n q = (stopped_by size A B (valid_Sound B b) n q, by_stopped size A B n q)

  module _ (A : List (Entry Key)) where
    pub normal_exactly : (U : List (Entry Key)) → (normal_entries size A ≡ joined U) ↔ ((TooLong size A → ⊥) × (U ≡ union A))
    unfolding normal_entries
    normal_exactly U = (
      both (λ (r : Linked). r ≡ joined U → (TooLong size A → ⊥) × (U ≡ union A)) _ _ _ (λ _ e. not_both e) (λ t e. ((λ h. omega (arith, h, from_not_lt _ _ t)), sym (joined_equal e))),
      λ r. sym (no_lt _ _ _ _ (not_over r.0) (ap (λ (u : List (Entry Key)). joined u) r.1)),
    )

    pub normal_refused : (n q : ℕ) → (normal_entries size A ≡ stopped n q) ↔ (TooLong size A × (n ≡ 26) × (q ≡ 0))
    unfolding normal_entries
    normal_refused n q = (
      both (λ (r : Linked). r ≡ stopped n q → TooLong size A × (n ≡ 26) × (q ≡ 0)) _ _ _
          (λ t e. let p = stopped_equal e in (from_yes_lt _ _ t, ap (λ (x : ℕ × ℕ). x.0) (sym p), ap (λ (x : ℕ × ℕ). x.1) (sym p)))
          (λ _ e. not_both (sym e)),
      λ r. sym (is_lt _ _ _ _ r.0 (λ j. stopped (r.1 j) (r.2 j))),
    )

  -- ---- swapping, repeating, an empty file, grouping

  -- the same list, or the same number
  pub swapped : (A B : List (Entry Key)) → Valid A → Valid B → number_only (link_entries size A B) ≡ number_only (link_entries size B A)
  swapped A B a b = same_facts size A B B A (valid_Sound B b) (valid_Sound A a) (Within-swap A B) (Within-swap B A)

  module _ (A : List (Entry Key)) (v : Valid A) where
    pub itself : link_entries size A A ≡ normal_entries size A
    itself = says_one size A A A v (Within-Sub (A ++ A) A (Sub-twice A)) (Within-Sub A (A ++ A) (λ e i. In-left e A A i))

    pub with_empty : link_entries size A [] ≡ normal_entries size A
    with_empty = says_one size A [] A v (Within-Sub (A ++ []) A (rw (append-nil A) (Sub-same A))) (Within-Sub A (A ++ []) (λ e i. In-left e A [] i))

    pub empty_with : link_entries size [] A ≡ normal_entries size A
    empty_with = says_one size [] A A v (Within-Sub A A (Sub-same A)) (Within-Sub A A (Sub-same A))

  -- the list that a link joined is a file of the next: both ways join to the same list, or neither joins
  pub grouped : Grows size → (A B C : List (Entry Key)) → Valid A → Valid B → Valid C
      → and_then (joined_of (link_entries size A B)) (λ u. joined_of (link_entries size u C)) ≡ and_then (joined_of (link_entries size B C)) (λ u. joined_of (link_entries size A u))
  grouped g A B C a b c = groups.grouped size g A B C a b c

  -- ---- what was joined

  module _ (A B : List (Entry Key)) (a : Valid A) (b : Valid B) (U : List (Entry Key)) (e : link_entries size A B ≡ joined U) where
    pub joined_Valid : Valid U
    joined_Valid = groups.joined-Valid size A B a b U e

    -- it says what the two files say
    pub joined_says : Within U (A ++ B) × Within (A ++ B) U
    joined_says = let r = joined-Fine size A B (valid_Sound B b) U e in rw r.1 (union_says (A ++ B) r.0.agree)

    -- it is its own union
    pub joined_own : union U ≡ U
    joined_own = let r = joined-Fine size A B (valid_Sound B b) U e in rw r.1 (union_again (A ++ B) r.0.agree)

    -- and its own normal form
    pub joined_normal : normal_entries size U ≡ joined U
    joined_normal =
        let r = joined-Fine size A B (valid_Sound B b) U e in
        (normal_exactly U U).1 ((λ h. r.0.short (rw (joined_own, r.1) at h)), sym joined_own)

  module _ (A : List (Entry Key)) (a : Valid A) (U : List (Entry Key)) (e : normal_entries size A ≡ joined U) where
    pub normal_Valid : Valid U
    normal_Valid = rw ((normal_exactly A U).0 e).1 (union-Valid A (valid_Agree A a) (Closed-Valid A a) (Valid-few A a))

    pub normal_says : Within U A × Within A U
    normal_says = rw ((normal_exactly A U).0 e).1 (union_says A (valid_Agree A a))

    pub normal_own : union U ≡ U
    normal_own = rw ((normal_exactly A U).0 e).1 (union_again A (valid_Agree A a))

    pub normal_normal : normal_entries size U ≡ joined U
    normal_normal =
        let r = (normal_exactly A U).0 e in
        (normal_exactly U U).1 ((λ h. r.0 (rw (normal_own, r.1) at h)), sym normal_own)

-- a list that is its own union stands in the order of the normal form, and its IIDs in the order of a directory
module _ (U : List (Entry Key)) (e : union U ≡ U) where
  pub own_sorted : (i j : ℕ) → i < j → j < length U → compare_by (iid_in U) (entry_key (entry_at U i)) (entry_key (entry_at U j)) ≡ Less
  own_sorted = subst (λ (us : List (Entry Key)). (i j : ℕ) → i < j → j < length us → compare_by (iid_in U) (entry_key (entry_at us i)) (entry_key (entry_at us j)) ≡ Less) e (union_sorted U)

  pub own_order : Valid U → IidOrder U
  own_order v = subst IidOrder e (union_order U (valid_Agree U v).owners)

-- ---- meaning

-- two files mean the same exactly when their unions, so their normal forms, are equal
pub mean_exactly : (A B : List (Entry Key)) → Valid A → Valid B → MeanSame A B ↔ (union A ≡ union B)
mean_exactly A B a b = (mean_union A B a b, union_mean A B a b)

-- ---- conditions

-- 22 by facts: where no key has two IIDs, k shares its IID exactly when another key has one that k has
pub shared_exactly : (es : List (Entry Key)) → Free es (TwoIids es) → (k : Key) → SharedIid es k ↔ ((l : Key) × (i : ℕ) × In (k, i) (iids_of es) × In (l, i) (iids_of es) × (l ≡ k → ⊥))
shared_exactly es f k = (
  λ q.
      let l : Key = q.1.0 in
      let m : In (l, iid_in es l) (iids_of es) = iid_fact es l (λ z. q.0 (sym q.1.2 ∙ z)) in
      (l, iid_in es k, iid_fact es k q.0, rw q.1.2 at m, q.1.1),
  λ q. shared es (Single-iids es f) k q.0 q.1 q.2 q.3 q.4,
)

-- more steps than entries tell whether a chain ends; where every reference is a key, as many steps as keys do
pub chain_steps : (es : List (Entry Key)) (k : Key) (n : ℕ) → length es < n → is_some (climb n (parent_in es) (some k)) ≡ endless es k
chain_steps es k n l = Tests-same _ _ (chain_enough es n k l) (endless_test es k)

pub Closed-steps : (es : List (Entry Key)) → Closed es → (ks : List Key) → Sub (keys_of es) ks → (k : Key) (n : ℕ) → length ks ≤ n → In k ks → is_some (climb n (parent_in es) (some k)) ≡ endless es k
Closed-steps es c ks f k n l i = Tests-same _ _ (chain_closed es ks (λ z p e. f p (Closed-parents es c z p e)) n k l i) (endless_test es k)
