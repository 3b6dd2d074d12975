-- What is done entry by entry for what is reported, against the list of the reports.
-- Assumes nothing.
use mathlib.Core.Path.{◌≡◌, refl, sym, ap, ◌∙◌}
use mathlib.Core.List.{List, [], ◌∷◌, ◌++◌, map, map-append}
use mathlib.Core.Option.{Option, none, some}
use Prim.Native.Nat.{ℕ, zero, suc, ◌+◌, ◌*◌, ◌≤◌, ◌<◌}
use native.Mathlib.Omega.{arith}
use lib.ListN.{length, set, length-append}
use lib.Seq.{sets, length-sets, take_all}
use Rattle.number.proofs.Choice.{both, yes_eq, not_eq}
use Rattle.decimal.proofs.Stores.{chain, front}
use Rattle.reading.proofs.Passes.{pass_true, pass_false}
use Rattle.bridge.specs.Span.{span}
use Rattle.mend.specs.Left.{Report, report, prepend, present}
use Rattle.mend.specs.Cleared.{no_pointer, clear, clear_all}
use Rattle.mend.specs.Tables.{number_for}
use Rattle.mend.proofs.Spans.{present_more}
use Rattle.mend.proofs.Bytes.{Indexed, clear_one, clear_to, clear_none, clear_more, clear_is, length-clear}
use Rattle.salvage.specs.Tables.{clear_at, clear_by, one_by, list_by, index_at}

-- `f` tells of each of n entries the number that is reported and 1 more, or 0; `p` what is reported
module _ (f : ℕ → ℕ) (p : ℕ → Option Report) (n : ℕ) (same : (k : ℕ) → k < n → f k ≡ number_for (p k)) where
  -- ---- pointers

  module _ (d : ℕ) (s : List ℕ) (own : Indexed p) where
    one_cleared : (k : ℕ) (o : Option Report) (t : List ℕ) → f k ≡ number_for o → clear_at f d k t ≡ clear_one d k o t
    unfolding clear_at clear_one number_for
    one_cleared k none t e = pass_true _ _ _ (yes_eq _ 0 e) refl
    one_cleared k (some (report i m q)) t e = pass_false _ _ _ (not_eq _ 0 (λ z. omega arith)) refl

    cleared_to : (c : ℕ) → c ≤ n → clear_by f d c s ≡ clear_to d s p own c
    unfolding clear_by
    cleared_to zero l = sym (clear_none d s p own)
    cleared_to (suc c) l = ap (clear_at f d c) (cleared_to c (omega arith)) ∙ one_cleared c (p c) (clear_to d s p own c) (same c l) ∙ sym (clear_more d s p own c)

    pub cleared_by : clear_by f d n s ≡ clear_all d (present (span p n)) s
    unfolding clear_to
    cleared_by = cleared_to n (omega arith)

  -- ---- lists

  module _ (g : ℕ → ℕ) (part : Report → ℕ) (told : (k : ℕ) (r : Report) → k < n → p k ≡ some r → g k ≡ part r) where
    one_listed : (k : ℕ) (o : Option Report) → k < n → p k ≡ o → one_by (f k) (g k) ≡ map part (prepend o [])
    unfolding one_by prepend number_for
    one_listed k none l e = pass_true _ _ _ (yes_eq _ 0 (same k l ∙ ap number_for e)) refl
    one_listed k (some (report i m q)) l e =
        let v : f k ≡ m + 1 = same k l ∙ ap number_for e in
        pass_false _ _ _ (not_eq _ 0 (λ z. omega arith)) (ap (λ (x : ℕ). x ∷ []) (told k (report i m q) l e))

    listed_to : (c : ℕ) → c ≤ n → list_by f g c ≡ map part (present (span p c))
    unfolding list_by span present
    listed_to zero l = refl
    listed_to (suc c) l =
        (λ i. listed_to c (omega arith) i ++ one_listed c (p c) l refl i)
        ∙ sym (map-append part (present (span p c)) (prepend (p c) []))
        ∙ ap (map part) (sym (present_more p c))

    pub listed_by : list_by f g n ≡ map part (present (span p n))
    listed_by = listed_to n (omega arith)

pub clear_by_more : (f : ℕ → ℕ) (d k : ℕ) (s : List ℕ) → clear_by f d (k + 1) s ≡ clear_at f d k (clear_by f d k s)
unfolding clear_by
clear_by_more f d k s = let e : k + 1 ≡ suc k = omega arith in rw e refl

-- ---- one report put at place c

list_more : (f g : ℕ → ℕ) (k : ℕ) → list_by f g (k + 1) ≡ list_by f g k ++ one_by (f k) (g k)
unfolding list_by
list_more f g k = let e : k + 1 ≡ suc k = omega arith in rw e refl

module _ (number v c : ℕ) (l : List ℕ) where
  pub none_put : number ≡ 0 → (c ≡ c + length (one_by number v)) × (l ≡ sets l c (one_by number v))
  unfolding one_by
  none_put z =
      let e : one_by number v ≡ [] = one_none z in
      rw e ((let q : c ≡ c + 0 = omega arith in q), refl)
    where
      one_none : number ≡ 0 → one_by number v ≡ []
      one_none z = pass_true _ _ _ (yes_eq _ 0 z) refl

  pub one_put : (number ≡ 0 → ⊥) → (c + 1 ≡ c + length (one_by number v)) × (set l c v ≡ sets l c (one_by number v))
  unfolding one_by
  one_put z = let e : one_by number v ≡ v ∷ [] = one_some z in rw e (refl, refl)
    where
      one_some : (number ≡ 0 → ⊥) → one_by number v ≡ v ∷ []
      one_some z = pass_false _ _ _ (not_eq _ 0 z) refl

one_length : (number v u : ℕ) → length (one_by number v) ≡ length (one_by number u)
unfolding one_by
one_length number v u = both (λ (b : List ℕ). length b ≡ length (one_by number u)) _ _ _ (λ t. sym (ap length (pass_true _ _ _ t refl))) (λ t. sym (ap length (pass_false _ _ _ t refl)))

one_few : (number v : ℕ) → length (one_by number v) ≤ 1
unfolding one_by
one_few number v = both (λ (b : List ℕ). length b ≤ 1) _ _ _ (λ _. omega arith) (λ _. omega arith)

module _ (f : ℕ → ℕ) where
  pub list_few : (g : ℕ → ℕ) (k : ℕ) → length (list_by f g k) ≤ k
  unfolding list_by
  list_few g zero = omega arith
  list_few g (suc k) = omega (arith, length-append (list_by f g k) (one_by (f k) (g k)), list_few g k, one_few (f k) (g k))

  list_length : (g u : ℕ → ℕ) (k : ℕ) → length (list_by f g k) ≡ length (list_by f u k)
  unfolding list_by
  list_length g u zero = refl
  list_length g u (suc k) =
      length-append (list_by f g k) (one_by (f k) (g k))
      ∙ (λ i. list_length g u k i + one_length (f k) (g k) (u k) i)
      ∙ sym (length-append (list_by f u k) (one_by (f k) (u k)))

  -- the code's lists grow by one entry
  module _ (k c number : ℕ) (told : number ≡ f k) (at : c ≡ length (list_by f index_at k)) where
    pub counted : (r : ℕ) → r ≡ c + length (one_by number (k + 1)) → r ≡ length (list_by f index_at (k + 1))
    unfolding index_at
    counted r e =
        e ∙ (λ i. at i + length (one_by (told i) (k + 1))) ∙ sym (length-append (list_by f index_at k) (one_by (f k) (index_at k))) ∙ ap length (sym (list_more f index_at k))

    pub grown : (g : ℕ → ℕ) (v : ℕ) (l₀ l₁ l₂ : List ℕ) → v ≡ g k → l₁ ≡ sets l₀ 0 (list_by f g k) → l₂ ≡ sets l₁ c (one_by number v) → l₂ ≡ sets l₀ 0 (list_by f g (k + 1))
    grown g v l₀ l₁ l₂ e a b =
        chain l₀ (list_by f g k) (one_by number v) 0 c a (let q = list_length index_at g k in omega arith) b
        ∙ ap (sets l₀ 0) ((λ i. list_by f g k ++ one_by (told i) (e i)) ∙ sym (list_more f g k))

-- ---- one pointer

pub four_set : (d k p : ℕ) (s : List ℕ) → p ≡ d + 28 * k + 24 → set (set (set (set s p 0) (p + 1) 0) (p + 2) 0) (p + 3) 0 ≡ clear d (k + 1) s
four_set d k p s e =
    let a : p + 1 ≡ suc p = omega arith in
    let b : p + 2 ≡ suc (suc p) = omega arith in
    let c : p + 3 ≡ suc (suc (suc p)) = omega arith in
    (λ i. set (set (set (set s p 0) (a i) 0) (b i) 0) (c i) 0) ∙ ap (λ (x : ℕ). sets s x no_pointer) e ∙ sym (clear_is d k s)

-- a copy into as many bytes
pub copied_whole : (s copy : List ℕ) → length copy ≡ length s → sets copy 0 s ≡ s
copied_whole s copy e =
    sym (take_all (length s) (sets copy 0 s) (omega (arith, length-sets copy 0 s))) ∙ front copy s (omega arith)

pub length-clear_at : (f : ℕ → ℕ) (d k : ℕ) (s : List ℕ) → length (clear_at f d k s) ≡ length s
unfolding clear_at
length-clear_at f d k s = both (λ (t : List ℕ). length t ≡ length s) _ _ _ (λ _. refl) (λ _. length-clear d k s)
