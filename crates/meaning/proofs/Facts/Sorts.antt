-- Sorting by a total order: the sorted list is the one list that rises and has those members.
-- Assumes nothing.
use Rattle.std.specs.declared.cmp.Ordering.TheVariants.{Equal, Greater, Less}
use Rattle.std.specs.declared.cmp.Ordering.{Ordering}
use mathlib.Core.Path.{◌≡◌, refl, sym, ◌∙◌}
use mathlib.Core.Logic.{◌⊎◌, inl, inr}
use mathlib.Core.List.{List, [], ◌∷◌}
use Prim.Native.Nat.{ℕ, zero, suc, ◌<◌}
use native.Mathlib.Omega.{arith}
use lib.ListN.{length, get_or}
use Rattle.key.proofs.Orders.{not_before_same}
use Rattle.meaning.specs.Facts.Facts.{In, Sub}
use Rattle.meaning.specs.Facts.Union.{beside, insert, sort}
use Rattle.meaning.proofs.Facts.Sets.{Distinct}

-- a total order
pub record Total {X : Type 0} (compare : X → X → Ordering) : Type 0 where
  pub self : (x : X) → compare x x ≡ Equal
  pub equal : (x y : X) → compare x y ≡ Equal → x ≡ y
  pub turned : (x y : X) → compare x y ≡ Greater → compare y x ≡ Less
  pub through : (x y z : X) → compare x y ≡ Less → compare y z ≡ Less → compare x z ≡ Less

module _ {X : Type 0} (compare : X → X → Ordering) where
  -- x comes before each of the list
  abbrev pub Below : X → List X → Type 0
  Below x [] = Unit {0}
  Below x (y ∷ ys) = (compare x y ≡ Less) × Below x ys

  abbrev pub Rising : List X → Type 0
  Rising [] = Unit {0}
  Rising (x ∷ xs) = Below x xs × Rising xs

module _ {X : Type 0} {compare : X → X → Ordering} (t : Total compare) where
  not_itself : {Y : Type 0} (x : X) → compare x x ≡ Less → Y
  not_itself x h = not_before_same (sym h ∙ t.self x)

  Below-In : (x y : X) (l : List X) → Below compare x l → In y l → compare x y ≡ Less
  Below-In x y [] b x3 = elim x3 [ ]
  Below-In x y (z ∷ l) b (inl e) = rw e b.0
  Below-In x y (z ∷ l) b (inr i) = Below-In x y l b.1 i

  Below-through : (x y : X) (l : List X) → compare x y ≡ Less → Below compare y l → Below compare x l
  Below-through x y [] h b = tt
  Below-through x y (z ∷ l) h b = (t.through x y z h b.0, Below-through x y l h b.1)

  -- ---- members of a sorted list

  In-insert : (z x : X) (l : List X) → (z ≡ x) ⊎ In z l → In z (insert compare x l)
  unfolding insert beside
  In-insert z x [] i = i
  In-insert z x (y ∷ ys) i = go (In-insert z x ys) (compare x y) refl i
    where
      go : ((z ≡ x) ⊎ In z ys → In z (insert compare x ys)) → (o : Ordering) → compare x y ≡ o → (z ≡ x) ⊎ In z (y ∷ ys) → In z (beside o x y ys (insert compare x ys))
      go ih Less h i = i
      go ih Equal h (inl p) = inl (p ∙ t.equal x y h)
      go ih Equal h (inr p) = p
      go ih Greater h (inl p) = inr (ih (inl p))
      go ih Greater h (inr (inl p)) = inl p
      go ih Greater h (inr (inr p)) = inr (ih (inr p))

  insert-In : (z x : X) (l : List X) → In z (insert compare x l) → (z ≡ x) ⊎ In z l
  unfolding insert beside
  insert-In z x [] i = i
  insert-In z x (y ∷ ys) i = go (insert-In z x ys) (compare x y) i
    where
      go : (In z (insert compare x ys) → (z ≡ x) ⊎ In z ys) → (o : Ordering) → In z (beside o x y ys (insert compare x ys)) → (z ≡ x) ⊎ In z (y ∷ ys)
      go ih Less i = i
      go ih Equal i = inr i
      go ih Greater (inl p) = inr (inl p)
      go ih Greater (inr p) = elim (ih p) [ inl q ↦ inl q | inr q ↦ inr (inr q) ]

  pub In-sort : (z : X) (l : List X) → In z l → In z (sort compare l)
  unfolding sort
  In-sort z [] x' = elim x' [ ]
  In-sort z (x ∷ xs) (inl e) = In-insert z x (sort compare xs) (inl e)
  In-sort z (x ∷ xs) (inr i) = In-insert z x (sort compare xs) (inr (In-sort z xs i))

  pub sort-In : (z : X) (l : List X) → In z (sort compare l) → In z l
  unfolding sort
  sort-In z [] i = i
  sort-In z (x ∷ xs) i = elim (insert-In z x (sort compare xs) i) [ inl e ↦ inl e | inr j ↦ inr (sort-In z xs j) ]

  -- ---- it rises

  Below-insert : (w x : X) (l : List X) → compare w x ≡ Less → Below compare w l → Below compare w (insert compare x l)
  unfolding insert beside
  Below-insert w x [] h b = (h, tt)
  Below-insert w x (y ∷ ys) h b = go (Below-insert w x ys h b.1) (compare x y)
    where
      go : Below compare w (insert compare x ys) → (o : Ordering) → Below compare w (beside o x y ys (insert compare x ys))
      go ih Less = (h, b)
      go ih Equal = b
      go ih Greater = (b.0, ih)

  Rising-insert : (x : X) (l : List X) → Rising compare l → Rising compare (insert compare x l)
  unfolding insert beside
  Rising-insert x [] r = (tt, tt)
  Rising-insert x (y ∷ ys) r = go (Rising-insert x ys r.1) (compare x y) refl
    where
      go : Rising compare (insert compare x ys) → (o : Ordering) → compare x y ≡ o → Rising compare (beside o x y ys (insert compare x ys))
      go ih Less k = ((k, Below-through x y ys k r.0), r)
      go ih Equal k = r
      go ih Greater k = (Below-insert y x ys (t.turned x y k) r.0, ih)

  pub Rising-sort : (l : List X) → Rising compare (sort compare l)
  unfolding sort
  Rising-sort [] = tt
  Rising-sort (x ∷ xs) = Rising-insert x (sort compare xs) (Rising-sort xs)

  pub Rising-Distinct : (l : List X) → Rising compare l → Distinct l
  Rising-Distinct [] r = tt
  Rising-Distinct (x ∷ l) r = (λ i. not_itself x (Below-In x x l r.0 i), Rising-Distinct l r.1)

  -- ---- a rising list is known by its members

  head_same : (x y : X) (l m : List X) → Below compare x l → Below compare y m → In x (y ∷ m) → In y (x ∷ l) → x ≡ y
  head_same x y l m b c (inl e) j = e
  head_same x y l m b c (inr i) (inl e) = sym e
  head_same x y l m b c (inr i) (inr j) = not_itself x (t.through x y x (Below-In x y l b j) (Below-In y x m c i))

  tail_of_lem : (x y : X) (l m : List X) → x ≡ y → Below compare x l → (z : X) → In z l → In z (y ∷ m) → In z m
  tail_of_lem x y l m e b z i (inr j) = j
  tail_of_lem x y l m e b z i (inl p) = not_itself y (rw (p, e) at (Below-In x z l b i))

  pub Rising-unique : (l m : List X) → Rising compare l → Rising compare m → Sub l m → Sub m l → l ≡ m
  Rising-unique [] [] r s f g = refl
  Rising-unique [] (y ∷ m) r s f g = absurd (g y (inl refl))
  Rising-unique (x ∷ l) [] r s f g = absurd (f x (inl refl))
  Rising-unique (x ∷ l) (y ∷ m) r s f g =
      let e : x ≡ y = head_same x y l m r.0 s.0 (f x (inl refl)) (g y (inl refl)) in
      let ih : l ≡ m = Rising-unique l m r.1 s.1 (λ z i. tail_of_lem x y l m e r.0 z i (f z (inr i))) (λ z i. tail_of_lem y x m l (sym e) s.0 z i (g z (inr i))) in
      (λ i. e i ∷ ih i)

  pub sorted_is : (l m : List X) → Rising compare l → Sub l m → Sub m l → l ≡ sort compare m
  sorted_is l m r f g = Rising-unique l (sort compare m) r (Rising-sort m) (λ z i. In-sort z m (f z i)) (λ z i. g z (sort-In z m i))

  pub sort_ext : (l m : List X) → Sub l m → Sub m l → sort compare l ≡ sort compare m
  sort_ext l m f g = sorted_is (sort compare l) m (Rising-sort l) (λ z i. f z (sort-In z l i)) (λ z i. In-sort z l (g z i))

-- ---- rising, by positions

module _ {X : Type 0} (compare : X → X → Ordering) (d : X) where
  Below-at : (x : X) (l : List X) → ((j : ℕ) → j < length l → compare x (get_or l j d) ≡ Less) → Below compare x l
  Below-at x [] f = tt
  Below-at x (y ∷ l) f = (f 0 (omega arith), Below-at x l (λ j h. f (suc j) (omega arith)))

  pub Rising-pairs : (l : List X) → ((i j : ℕ) → i < j → j < length l → compare (get_or l i d) (get_or l j d) ≡ Less) → Rising compare l
  Rising-pairs [] f = tt
  Rising-pairs (x ∷ l) f = (Below-at x l (λ j h. f 0 (suc j) (omega arith) (omega arith)), Rising-pairs l (λ i j h k. f (suc i) (suc j) (omega arith) (omega arith)))

  at_Below : (x : X) (l : List X) → Below compare x l → (j : ℕ) → j < length l → compare x (get_or l j d) ≡ Less
  at_Below x [] b j h = absurd (omega arith)
  at_Below x (y ∷ l) b zero h = b.0
  at_Below x (y ∷ l) b (suc j) h = at_Below x l b.1 j (omega arith)

  pub pairs_Rising : (l : List X) → Rising compare l → (i j : ℕ) → i < j → j < length l → compare (get_or l i d) (get_or l j d) ≡ Less
  pairs_Rising [] r i j h k = absurd (omega arith)
  pairs_Rising (x ∷ l) r i zero h k = absurd (omega arith)
  pairs_Rising (x ∷ l) r zero (suc j) h k = at_Below x l r.0 j (omega arith)
  pairs_Rising (x ∷ l) r (suc i) (suc j) h k = pairs_Rising l r.1 i j (omega arith) (omega arith)
