-- Members of lists, by element and by position; how much a list weighs.
-- Assumes nothing.
use mathlib.Core.Path.{◌≡◌, refl, sym, ap, ◌∙◌}
use mathlib.Core.Logic.{◌⊎◌, inl, inr}
use mathlib.Core.List.{List, [], ◌∷◌, ◌++◌, map, append_assoc}
use Prim.Native.Nat.{ℕ, zero, suc, ◌+◌, ◌≤◌, ◌<◌}
use native.Mathlib.Omega.{arith}
use lib.ListN.{length, get_or}
use Rattle.meaning.specs.Facts.Facts.{In, Sub}

-- ---- members

module _ {X : Type 0} where
  pub In-left : (x : X) (l m : List X) → In x l → In x (l ++ m)
  In-left x [] m x'' = elim x'' [ ]
  In-left x (y ∷ l) m (inl e) = inl e
  In-left x (y ∷ l) m (inr i) = inr (In-left x l m i)

  pub In-right : (x : X) (l m : List X) → In x m → In x (l ++ m)
  In-right x [] m i = i
  In-right x (y ∷ l) m i = inr (In-right x l m i)

  pub In-append : (x : X) (l m : List X) → In x (l ++ m) → In x l ⊎ In x m
  In-append x [] m i = inr i
  In-append x (y ∷ l) m (inl e) = inl (inl e)
  In-append x (y ∷ l) m (inr i) = elim (In-append x l m i) [ inl a ↦ inl (inr a) | inr b ↦ inr b ]

  pub Sub-same : (l : List X) → Sub l l
  Sub-same l x i = i

  pub Sub-swap : (l m : List X) → Sub (l ++ m) (m ++ l)
  Sub-swap l m x i = elim (In-append x l m i) [ inl a ↦ In-right x m l a | inr b ↦ In-left x m l b ]

  pub Sub-twice : (l : List X) → Sub (l ++ l) l
  Sub-twice l x i = elim (In-append x l l i) [ inl a ↦ a | inr b ↦ b ]

  pub Sub-group : (l m n : List X) → Sub ((l ++ m) ++ n) (l ++ (m ++ n))
  Sub-group l m n x i = rw (append_assoc l m n) at i

  pub Sub-regroup : (l m n : List X) → Sub (l ++ (m ++ n)) ((l ++ m) ++ n)
  Sub-regroup l m n x i = rw (append_assoc l m n) i

module _ {X Y : Type 0} (g : X → Y) where
  pub in_map : (x : X) (l : List X) → In x l → In (g x) (map g l)
  in_map x [] x'' = elim x'' [ ]
  in_map x (y ∷ l) (inl e) = inl (ap g e)
  in_map x (y ∷ l) (inr i) = inr (in_map x l i)

  pub map-In : (z : Y) (l : List X) → In z (map g l) → (x : X) × In x l × (z ≡ g x)
  map-In z [] x' = elim x' [ ]
  map-In z (y ∷ l) (inl e) = (y, inl refl, e)
  map-In z (y ∷ l) (inr i) = let r = map-In z l i in (r.0, inr r.1, r.2)

  pub length-map : (l : List X) → length (map g l) ≡ length l
  length-map [] = refl
  length-map (x ∷ l) = ap suc (length-map l)

  pub get_or-map : (c : Y) (d : X) (l : List X) (i : ℕ) → i < length l → get_or (map g l) i c ≡ g (get_or l i d)
  get_or-map c d [] i h = absurd (omega arith)
  get_or-map c d (x ∷ l) zero h = refl
  get_or-map c d (x ∷ l) (suc i) h = get_or-map c d l i (omega arith)

-- ---- positions

module _ {X : Type 0} (d : X) where
  pub at_In : (l : List X) (i : ℕ) → i < length l → In (get_or l i d) l
  at_In [] i h = absurd (omega arith)
  at_In (x ∷ l) zero h = inl refl
  at_In (x ∷ l) (suc i) h = inr (at_In l i (omega arith))

  pub In-at : (x : X) (l : List X) → In x l → (i : ℕ) × (i < length l) × (get_or l i d ≡ x)
  In-at x [] x'' = elim x'' [ ]
  In-at x (y ∷ l) (inl e) = (0, omega arith, sym e)
  In-at x (y ∷ l) (inr m) = let r = In-at x l m in (suc r.0, omega (arith, r.1), r.2)

-- ---- none twice

abbrev pub Distinct : {X : Type 0} → List X → Type 0
Distinct [] = Unit {0}
Distinct (x ∷ l) = (In x l → ⊥) × Distinct l

module _ {X : Type 0} (d : X) where
  pub Distinct-at : (l : List X) → Distinct l → (i j : ℕ) → i < j → j < length l → get_or l i d ≡ get_or l j d → ⊥
  Distinct-at [] t i j h k e = absurd (omega arith)
  Distinct-at (x ∷ l) t i zero h k e = absurd (omega arith)
  Distinct-at (x ∷ l) t zero (suc j) h k e = t.0 (rw e (at_In d l j (omega arith)))
  Distinct-at (x ∷ l) t (suc i) (suc j) h k e = Distinct-at l t.1 i j (omega arith) (omega arith) e

-- ---- weights

-- the sum of what the elements weigh
abbrev pub weigh : {X : Type 0} → (X → ℕ) → List X → ℕ
weigh w [] = 0
weigh w (x ∷ l) = w x + weigh w l

pub weigh-map : {X Y : Type 0} (w : Y → ℕ) (g : X → Y) (l : List X) → weigh w (map g l) ≡ weigh (λ x. w (g x)) l
weigh-map w g [] = refl
weigh-map w g (x ∷ l) = ap (λ (n : ℕ). w (g x) + n) (weigh-map w g l)

pub weigh_ones : {X : Type 0} (l : List X) → weigh (λ _. 1) l ≡ length l
weigh_ones [] = refl
weigh_ones (x ∷ l) = omega (arith, weigh_ones l)

-- l with one x taken out
take_out : {X : Type 0} (w : X → ℕ) (x : X) (l : List X) → In x l → (m : List X) × (weigh w l ≡ w x + weigh w m) × ((z : X) → In z l → (z ≡ x) ⊎ In z m)
take_out {X = X} w x [] x'' = elim x'' [ ]
take_out w x (y ∷ l) (inl e) = (l, rw e refl, λ z i. elim i [ inl p ↦ inl (p ∙ sym e) | inr j ↦ inr j ])
take_out {X} w x (y ∷ l) (inr i) =
    let r : (m : List X) × (weigh w l ≡ w x + weigh w m) × ((z : X) → In z l → (z ≡ x) ⊎ In z m) = take_out w x l i in
    let s : weigh w l ≡ w x + weigh w r.0 = r.1 in
    (y ∷ r.0, omega arith, λ z i. elim i [ inl p ↦ inr (inl p) | inr j ↦ elim (r.2 z j) [ inl q ↦ inl q | inr q ↦ inr (inr q) ] ])

-- a set weighs no more than one that holds it and whose elements weigh no less
pub weigh-Sub : {X : Type 0} (w v : X → ℕ) → ((x : X) → w x ≤ v x) → (l m : List X) → Distinct l → Sub l m → weigh w l ≤ weigh v m
weigh-Sub w v le [] m t f = omega arith
weigh-Sub {X} w v le (x ∷ l) m t f =
    let o : (n : List X) × (weigh v m ≡ v x + weigh v n) × ((z : X) → In z m → (z ≡ x) ⊎ In z n) = take_out v x m (f x (inl refl)) in
    let ih : weigh w l ≤ weigh v o.0 = weigh-Sub w v le l o.0 t.1 (λ z i. elim (o.2 z (f z (inr i))) [ inl e ↦ absurd (t.0 (rw e at i)) | inr j ↦ j ]) in
    let s : weigh v m ≡ v x + weigh v o.0 = o.1 in
    omega (arith, le x)
