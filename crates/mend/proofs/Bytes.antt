-- A file with some descriptor pointers cleared: which bytes stay, and what the pointers are then.
-- Assumes nothing.
use mathlib.Core.Path.{◌≡◌, refl, ap, ◌∙◌}
use mathlib.Core.Logic.{◌⊎◌, inl, inr}
use mathlib.Core.List.{List, [], ◌∷◌, ◌++◌, append-nil}
use mathlib.Core.Option.{Option, none, some}
use Prim.Native.Nat.{ℕ, zero, suc, ◌+◌, ◌-◌, ◌*◌, ◌≤◌, ◌<◌}
use native.Mathlib.Omega.{arith}
use native.Mathlib.Decide.{ℕ_discrete, dec_le}
use lib.ListN.{length, get_or, set, length-set}
use lib.Seq.{sets, length-sets, set_out, get_or-set_same, get_or-set_other}
use Rattle.number.specs.Number.{be}
use Rattle.number.proofs.Scans.{below}
use Rattle.rules.specs.Shows.{Bytes}
use Rattle.bridge.specs.Span.{span}
use Rattle.mend.specs.Left.{Report, report, index_of, prepend, present}
use Rattle.mend.specs.Cleared.{no_pointer, clear, clear_all}
use Rattle.mend.proofs.Spans.{present_more}

-- numbers of bytes that agree
pub be_ext : (k : ℕ) (s t : List ℕ) (at : ℕ) → ((i : ℕ) → i < k → get_or s (at + i) 0 ≡ get_or t (at + i) 0) → be k s at ≡ be k t at
unfolding be
be_ext zero s t at f = refl
be_ext (suc k) s t at f =
    let a = be_ext k s t at (λ i l. f i (omega arith)) in
    let b = f k (omega arith) in
    (λ j. a j * 256 + b j)

-- ---- numbers stored in a row

sets_other : (vs l : List ℕ) (i x : ℕ) → (x < i) ⊎ (i + length vs ≤ x) → get_or (sets l i vs) x 0 ≡ get_or l x 0
sets_other [] l i x h = refl
sets_other (v ∷ vs) l i x h = sets_other vs (set l i v) (suc i) x (elim h [ inl a ↦ inl (omega arith) | inr a ↦ inr (omega arith) ]) ∙ get_or-set_other l i x v 0 (elim h [ inl a ↦ (λ e. omega arith) | inr a ↦ (λ e. omega arith) ])

sets_in : (vs l : List ℕ) (i j : ℕ) → j < length vs → i + length vs ≤ length l → get_or (sets l i vs) (i + j) 0 ≡ get_or vs j 0
sets_in [] l i j h r = absurd (omega arith)
sets_in (v ∷ vs) l i zero h r =
    let z : i + 0 ≡ i = omega arith in
    rw z (sets_other vs (set l i v) (suc i) i (inl (omega arith)) ∙ get_or-set_same l i v 0 (omega arith))
sets_in (v ∷ vs) l i (suc j) h r =
    let z : i + suc j ≡ suc i + j = omega arith in
    rw z (sets_in vs (set l i v) (suc i) j (omega arith) (rw (length-set l i v) (omega arith)))

-- ---- one pointer

module _ (d k : ℕ) (s : List ℕ) where
  pub clear_is : clear d (k + 1) s ≡ sets s (d + 28 * k + 24) no_pointer
  unfolding clear
  clear_is = let e : k + 1 - 1 ≡ k = omega arith in rw e refl

  pub length-clear : length (clear d (k + 1) s) ≡ length s
  length-clear = ap length clear_is ∙ length-sets s (d + 28 * k + 24) no_pointer

  clear_other : (x : ℕ) → (x < d + 28 * k + 24) ⊎ (d + 28 * k + 28 ≤ x) → get_or (clear d (k + 1) s) x 0 ≡ get_or s x 0
  clear_other x h =
      ap (λ (t : List ℕ). get_or t x 0) clear_is
      ∙ sets_other no_pointer s (d + 28 * k + 24) x (elim h [ inl a ↦ inl a | inr a ↦ inr (omega arith) ])

  clear_in : (j : ℕ) → j < 4 → d + 28 * k + 28 ≤ length s → get_or (clear d (k + 1) s) (d + 28 * k + 24 + j) 0 ≡ 0
  clear_in j l r =
      ap (λ (t : List ℕ). get_or t (d + 28 * k + 24 + j) 0) clear_is
      ∙ sets_in no_pointer s (d + 28 * k + 24) j l (omega arith) ∙ zeros j
    where
      zeros : (j : ℕ) → get_or no_pointer j 0 ≡ 0
      zeros zero = refl
      zeros (suc zero) = refl
      zeros (suc (suc zero)) = refl
      zeros (suc (suc (suc zero))) = refl
      zeros (suc (suc (suc (suc j)))) = refl

set-Bytes : (s : List ℕ) (i : ℕ) → Bytes s → Bytes (set s i 0)
set-Bytes s i b = record {
  small = λ j. elim (ℕ_discrete j i) [
    | no n ↦ rw (get_or-set_other s i j 0 0 n) (b.small j)
    | yes e ↦ elim (dec_le (suc i) (length s)) [
      | yes l ↦ rw (e, get_or-set_same s i 0 0 l) (omega arith)
      | no n ↦ rw (set_out s i 0 (omega arith)) (b.small j)
    ]
  ];
}

Bytes-clear : (d k : ℕ) (s : List ℕ) → Bytes s → Bytes (clear d (k + 1) s)
Bytes-clear d k s b = rw (clear_is d k s) (set-Bytes _ _ (set-Bytes _ _ (set-Bytes _ _ (set-Bytes _ _ b))))

be-zero : (k : ℕ) (s : List ℕ) (at : ℕ) → ((i : ℕ) → i < k → get_or s (at + i) 0 ≡ 0) → be k s at ≡ 0
unfolding be
be-zero zero s at f = refl
be-zero (suc k) s at f = rw (be-zero k s at (λ i l. f i (omega arith)), f k (omega arith)) refl

-- ---- those of the reports of the first entries

-- the pointer of an entry that is reported
unfoldable pub clear_one : ℕ → ℕ → Option Report → List ℕ → List ℕ
clear_one d k none s = s
clear_one d k (some r) s = clear d (k + 1) s

clear_last : (d : ℕ) (rs : List Report) (r : Report) (s : List ℕ) → clear_all d (rs ++ (r ∷ [])) s ≡ clear d (index_of r) (clear_all d rs s)
unfolding clear_all index_of
clear_last d [] (report i n q) s = refl
clear_last d (report j m p ∷ rs) r s = clear_last d rs r (clear d j s)

-- f tells what is reported of each entry
pub record Indexed (f : ℕ → Option Report) : Type 0 where
  pub own : (k : ℕ) (r : Report) → f k ≡ some r → index_of r ≡ k + 1

module _ (d : ℕ) (s : List ℕ) (f : ℕ → Option Report) (own : Indexed f) where
  -- the bytes after the first c entries
  unfoldable pub clear_to : ℕ → List ℕ
  clear_to c = clear_all d (present (span f c)) s

  pub clear_none : clear_to 0 ≡ s
  unfolding clear_to span present clear_all
  clear_none = refl

  pub clear_more : (c : ℕ) → clear_to (suc c) ≡ clear_one d c (f c) (clear_to c)
  unfolding clear_to prepend clear_one
  clear_more c = ap (λ (rs : List Report). clear_all d rs s) (present_more f c) ∙ go (f c) refl
    where
      go : (o : Option Report) → f c ≡ o → clear_all d (present (span f c) ++ prepend o []) s ≡ clear_one d c o (clear_all d (present (span f c)) s)
      go none e = ap (λ (rs : List Report). clear_all d rs s) (append-nil (present (span f c)))
      go (some r) e = clear_last d (present (span f c)) r s ∙ ap (λ (i : ℕ). clear d i (clear_all d (present (span f c)) s)) (own.own c r e)

  unmoved : (c : ℕ) (o : Option Report) (t : List ℕ) → length (clear_one d c o t) ≡ length t
  unfolding clear_one
  unmoved c none t = refl
  unmoved c (some r) t = length-clear d c t

  pub length_cleared : (c : ℕ) → length (clear_to c) ≡ length s
  length_cleared zero = ap length clear_none
  length_cleared (suc c) = ap length (clear_more c) ∙ unmoved c (f c) (clear_to c) ∙ length_cleared c

  -- x lies in none of the first c descriptor pointers
  abbrev pub Apart : ℕ → ℕ → Type 0
  Apart c x = (k : ℕ) → k < c → (x < d + 28 * k + 24) ⊎ (d + 28 * k + 28 ≤ x)

  one_kept : (c x : ℕ) (o : Option Report) (t : List ℕ) → (x < d + 28 * c + 24) ⊎ (d + 28 * c + 28 ≤ x) → get_or (clear_one d c o t) x 0 ≡ get_or t x 0
  unfolding clear_one
  one_kept c x none t h = refl
  one_kept c x (some r) t h = clear_other d c t x h

  -- such a byte stays
  pub kept : (c x : ℕ) → Apart c x → get_or (clear_to c) x 0 ≡ get_or s x 0
  kept zero x h = ap (λ (t : List ℕ). get_or t x 0) clear_none
  kept (suc c) x h = ap (λ (t : List ℕ). get_or t x 0) (clear_more c) ∙ one_kept c x (f c) (clear_to c) (h c (omega arith)) ∙ kept c x (λ k l. h k (omega arith))

  pub number_kept : (c w at : ℕ) → ((i : ℕ) → i < w → Apart c (at + i)) → be w (clear_to c) at ≡ be w s at
  number_kept c w at h = be_ext w (clear_to c) s at (λ i l. kept c (at + i) (h i l))

  -- each descriptor pointer is as it was, or 0 where something is reported
  module _ (n : ℕ) (fits : d + 28 * n ≤ length s) where
    pointer_more : (c k : ℕ) → k < c → be 4 (clear_to (suc c)) (d + 28 * k + 24) ≡ be 4 (clear_to c) (d + 28 * k + 24)
    pointer_more c k l = be_ext 4 _ _ (d + 28 * k + 24) (λ i m. ap (λ (t : List ℕ). get_or t (d + 28 * k + 24 + i) 0) (clear_more c) ∙ one_kept c (d + 28 * k + 24 + i) (f c) (clear_to c) (inl (omega arith)))

    pointer_new : (c : ℕ) → be 4 (clear_to c) (d + 28 * c + 24) ≡ be 4 s (d + 28 * c + 24)
    pointer_new c = number_kept c 4 (d + 28 * c + 24) (λ i m k l. inr (omega arith))

    pub pointer_kept : (c k : ℕ) → k < c → f k ≡ none → be 4 (clear_to c) (d + 28 * k + 24) ≡ be 4 s (d + 28 * k + 24)
    unfolding clear_one
    pointer_kept zero k l e = absurd (omega arith)
    pointer_kept (suc c) k l e = elim (below k c (omega arith)) [
      | inl q ↦ rw q (ap (λ (t : List ℕ). be 4 t (d + 28 * c + 24)) (clear_more c ∙ ap (λ (o : Option Report). clear_one d c o (clear_to c)) (rw q at e)) ∙ pointer_new c)
      | inr m ↦ pointer_more c k m ∙ pointer_kept c k m e
    ]

    pub pointer_gone : (c k : ℕ) (r : Report) → c ≤ n → k < c → f k ≡ some r → be 4 (clear_to c) (d + 28 * k + 24) ≡ 0
    unfolding clear_one
    pointer_gone zero k r m l e = absurd (omega arith)
    pointer_gone (suc c) k r m l e = elim (below k c (omega arith)) [
      | inl q ↦ rw q (ap (λ (t : List ℕ). be 4 t (d + 28 * c + 24)) (clear_more c ∙ ap (λ (o : Option Report). clear_one d c o (clear_to c)) (rw q at e))
          ∙ be-zero 4 _ (d + 28 * c + 24) (λ i a. clear_in d c (clear_to c) i a (omega (arith, length_cleared c))))
      | inr b ↦ pointer_more c k b ∙ pointer_gone c k r (omega arith) b e
    ]

  pub Bytes-cleared : (c : ℕ) → Bytes s → Bytes (clear_to c)
  unfolding clear_one
  Bytes-cleared zero b = rw clear_none b
  Bytes-cleared (suc c) b = rw (clear_more c) (go (f c) (Bytes-cleared c b))
    where
      go : (o : Option Report) → Bytes (clear_to c) → Bytes (clear_one d c o (clear_to c))
      go none b = b
      go (some r) b = Bytes-clear d c (clear_to c) b
