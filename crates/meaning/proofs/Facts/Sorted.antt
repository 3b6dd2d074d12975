-- A union by positions: keys all different, rising in the order of the normal form, so IIDs in the order of a directory.
-- Assumes nothing.
use Rattle.std.specs.declared.cmp.Ordering.TheVariants.{Less}
use mathlib.Core.Path.{◌≡◌, sym, ap, ◌∙◌}
use mathlib.Core.Logic.{◌⊎◌, inl, inr}
use mathlib.Core.List.{List, []}
use Prim.Native.Nat.{ℕ, ◌≤◌, ◌<◌}
use native.Mathlib.Omega.{arith}
use native.Mathlib.Decide.{ℕ_discrete}
use lib.ListN.{length, get_or}
use Rattle.key.specs.Key.{Key, key}
use Rattle.reader.specs.Values.{Entry, entry_key, entry_iid}
use Rattle.meaning.specs.Facts.Facts.{In, Sub, keys_of}
use Rattle.meaning.specs.Facts.Union.{iid_in, compare_by, sort, union}
use Rattle.meaning.specs.Facts.Conditions.{SharedIid, Free}
use Rattle.meaning.specs.Facts.Valid.{entry_at, IidOrder}
use Rattle.meaning.proofs.Facts.Sets.{at_In, Distinct-at, length-map, weigh_ones, weigh-Sub}
use Rattle.meaning.proofs.Facts.Sorts.{Rising-sort, Rising-pairs, pairs_Rising, sorted_is, sort-In}
use Rattle.meaning.proofs.Facts.Orders.{Earlier, by_iid, by_key, by_before, ordered}
use Rattle.meaning.proofs.Facts.Unions.{sorted_keys, sorted_Distinct, union-length, union_at, for_key, for_iid}

-- keys that rise, over all pairs, and are those of es, are its keys sorted
pub sorted_unique : (iid : Key → ℕ) (ks : List Key) (es : List (Entry Key)) (d : Key) → ((i j : ℕ) → i < j → j < length ks → compare_by iid (get_or ks i d) (get_or ks j d) ≡ Less)
    → Sub ks (keys_of es) → Sub (keys_of es) ks → ks ≡ sort (compare_by iid) (keys_of es)
sorted_unique iid ks es d r f g = sorted_is (ordered iid) ks (keys_of es) (Rising-pairs (compare_by iid) d ks r) f g

module _ (es : List (Entry Key)) where
  -- key i of the union
  abbrev key_no : ℕ → Key
  key_no i = get_or (sorted_keys es) i (key [] [])

  pub key_at_lem : (i : ℕ) → i < length (union es) → entry_key (entry_at (union es) i) ≡ key_no i
  key_at_lem i h = ap entry_key (union_at es i (rw (union-length es) at h)) ∙ for_key es (key_no i)

  pub iid_at_lem : (i : ℕ) → i < length (union es) → entry_iid (entry_at (union es) i) ≡ iid_in es (key_no i)
  iid_at_lem i h = ap entry_iid (union_at es i (rw (union-length es) at h)) ∙ for_iid es (key_no i)

  rises : (i j : ℕ) → i < j → j < length (union es) → compare_by (iid_in es) (key_no i) (key_no j) ≡ Less
  rises i j l h = pairs_Rising (compare_by (iid_in es)) (key [] []) (sorted_keys es) (Rising-sort (ordered (iid_in es)) (keys_of es)) i j l (rw (union-length es) at h)

  -- in the order of the normal form
  pub union_sorted : (i j : ℕ) → i < j → j < length (union es) → compare_by (iid_in es) (entry_key (entry_at (union es) i)) (entry_key (entry_at (union es) j)) ≡ Less
  union_sorted i j l h = rw (key_at_lem i (omega arith), key_at_lem j h) (rises i j l h)

  pub union_unique : (i j : ℕ) → i < j → j < length (union es) → entry_key (entry_at (union es) i) ≡ entry_key (entry_at (union es) j) → ⊥
  union_unique i j l h e = Distinct-at (key [] []) (sorted_keys es) (sorted_Distinct es) i j l (rw (union-length es) at h) (sym (key_at_lem i (omega arith)) ∙ e ∙ key_at_lem j h)

  -- no entry more than were given
  pub union_few : length (union es) ≤ length es
  union_few =
      omega (
        arith,
        union-length es,
        length-map entry_key es,
        weigh_ones (sorted_keys es),
        weigh_ones (keys_of es),
        weigh-Sub (λ _. 1) (λ _. 1) (λ _. omega arith) (sorted_keys es) (keys_of es) (sorted_Distinct es) (λ k i. sort-In (ordered (iid_in es)) k (keys_of es) i),
      )

  -- IIDs never fall, and only zero IIDs are equal
  pub union_order : Free es (SharedIid es) → IidOrder (union es)
  union_order f i j l h =
      let m : j < length (sorted_keys es) = rw (union-length es) at h in
      let k : In (key_no i) (keys_of es) = sort-In (ordered (iid_in es)) (key_no i) (keys_of es) (at_In (key [] []) (sorted_keys es) i (omega arith)) in
      let n : key_no j ≡ key_no i → ⊥ = λ e. Distinct-at (key [] []) (sorted_keys es) (sorted_Distinct es) i j l m (sym e) in
      rw (iid_at_lem i (omega arith), iid_at_lem j h) (go k n (by_before (iid_in es) (key_no i) (key_no j) (rises i j l h)))
    where
      go : In (key_no i) (keys_of es) → (key_no j ≡ key_no i → ⊥) → Earlier (iid_in es) (key_no i) (key_no j) → (iid_in es (key_no i) ≡ 0) ⊎ (iid_in es (key_no i) < iid_in es (key_no j))
      go k n (by_iid s) = inr s
      go k n (by_key e s) = elim (ℕ_discrete (iid_in es (key_no i)) 0) [ yes z ↦ inl z | no z ↦ absurd (f (key_no i) k (z, (key_no j, n, sym e))) ]
