-- The pool laid out: runs of uses, with bodies between them.
-- Assumes nothing.
use mathlib.Core.Path.{◌≡◌, refl, sym, ap, ◌∙◌}
use mathlib.Core.List.{List}
use mathlib.Core.Logic.{inl, inr}
use Prim.Native.Nat.{ℕ, ◌+◌, ◌-◌, ◌*◌, ◌≤◌, ◌<◌}
use native.Mathlib.Omega.{arith}
use native.Mathlib.Decide.{dec_le}
use lib.ListN.{length, get_or}
use Rattle.number.specs.Limits.{file_limit}
use Rattle.number.proofs.Scans.{below}
use Rattle.key.specs.First.{first_same, Filled, Past}
use Rattle.key.proofs.Firsts.{first_le, first_first}
use Rattle.names.specs.Uses.{spelling}
use Rattle.iids.specs.Cells.{cell}
use Rattle.places.specs.Places.{up_to, stored_use, pointer_at, InOrder, capped, use_place}
use Rattle.places.specs.Laying.{Fresh, Laid}
use Rattle.places.proofs.Sums.{up_more, up_le, bodies_ahead}

-- i bodies and the uses below u are laid, and p comes next
pub record Out (pool other words before sizes : List ℕ) (c : ℕ) (t₀ t : List ℕ) (n u p i : ℕ) : Type 0 where
  pub few : i ≤ c
  pub low : u ≤ n
  pub behind : (j : ℕ) → j < i → get_or before j 0 ≤ u
  pub on : (j : ℕ) → i ≤ j → j < c → u ≤ get_or before j 0
  pub at : p ≡ 1 + up_to (stored_use pool other words) u + up_to (cell sizes) i
  pub near : p ≤ 1 + u * file_limit + i * 4294967296
  pub done : (k : ℕ) → k < u → get_or t k 0 ≡ use_place pool other words before sizes c k
  pub fresh : Fresh (spelling pool other words) t u n
  pub long : length t ≡ length t₀
  pub past : Past n t₀ t

-- the bodies from i on stand from e on, where the body i stands
pub run_on : (before : List ℕ) (c n i e : ℕ) → InOrder before c n → i < c → e ≡ get_or before i 0 → (j : ℕ) → i ≤ j → j < c → e ≤ get_or before j 0
run_on before c n i e w l f j a b = elim (below i j a) [ inl z ↦ rw (← z) (omega arith) | inr z ↦ omega (arith, w.rising i j z b) ]

pub run_in : (before : List ℕ) (c n i e : ℕ) → InOrder before c n → i < c → e ≡ get_or before i 0 → e ≤ n
run_in before c n i e w l f = omega (arith, w.within i l)

module _ (pool other words before sizes : List ℕ) (c : ℕ) (t₀ : List ℕ) (n : ℕ) where
  abbrev F : ℕ → ℕ
  F = first_same (spelling pool other words)

  abbrev S : ℕ → ℕ
  S = up_to (stored_use pool other words)

  pub Out-start : InOrder before c n → Filled t₀ n (first_same (spelling pool other words)) → Out pool other words before sizes c t₀ t₀ n 0 1 0
  unfolding up_to
  Out-start o f = record {
    few = omega arith;
    low = omega arith;
    behind = λ j l. absurd (omega arith);
    on = λ j a b. omega arith;
    at = refl;
    near = omega arith;
    done = λ k l. absurd (omega arith);
    fresh = record { each = λ k a b. f.held k b };
    long = refl;
    past = record { same = λ k h. refl };
  }

  module _ (t : List ℕ) (u p i : ℕ) (o : Out pool other words before sizes c t₀ t n u p i) where
    pub run_up : (e : ℕ) → i < c → e ≡ get_or before i 0 → u ≤ e
    run_up e l f = omega (arith, o.on i (omega arith) l)

    module _ (v : List ℕ) (e r : ℕ) (l : Laid (spelling pool other words) (stored_use pool other words) t v u e p r) (on : (j : ℕ) → i ≤ j → j < c → e ≤ get_or before j 0) where
      -- a stored use of the run lies where the definition says
      here : (k : ℕ) → u ≤ k → k < e → p + S k - S u ≡ pointer_at pool other words before sizes c k
      unfolding pointer_at
      here k a b =
          let h = bodies_ahead before sizes k i c o.few (λ j m. omega (arith, o.behind j m)) (λ j m x. omega (arith, on j m x)) in
          omega (arith, o.at, up_le (stored_use pool other words) u k a)

      own : (k : ℕ) → u ≤ k → k < e → F k ≡ k → get_or v k 0 ≡ use_place pool other words before sizes c k
      unfolding use_place
      own k a b f = l.first k a b f ∙ ap capped (here k a b ∙ ap (pointer_at pool other words before sizes c) (sym f))

      -- a place is that of the first use
      shared : (k : ℕ) → use_place pool other words before sizes c (F k) ≡ use_place pool other words before sizes c k
      unfolding use_place
      shared k = ap (λ (x : ℕ). capped (pointer_at pool other words before sizes c x)) (first_first (spelling pool other words) k)

      pub run_done : (k : ℕ) → k < e → get_or v k 0 ≡ use_place pool other words before sizes c k
      run_done k b = elim (dec_le u k) [
        | no a ↦ l.apart k (inl (omega arith)) ∙ o.done k (omega arith)
        | yes a ↦ elim (below (F k) k (first_le (spelling pool other words) k)) [
          | inl f ↦ own k a b f
          | inr f ↦ l.later k a b f ∙ elim (dec_le u (F k)) [
            | no g ↦ l.apart (F k) (inl (omega arith)) ∙ o.done (F k) (omega arith) ∙ shared k
            | yes g ↦ own (F k) g (omega arith) (first_first (spelling pool other words) k) ∙ shared k
          ]
        ]
      ]

      pub run_Past : e ≤ n → Past n t₀ v
      run_Past h = record { same = λ k m. l.apart k (inr (omega arith)) ∙ o.past.same k m }

      -- the body i after the run
      pub Out-next : InOrder before c n → (s : ℕ) → i < c → u ≤ e → e ≡ get_or before i 0 → s ≡ get_or sizes i 0 → s < 4294967296 → r + u * file_limit ≤ p + e * file_limit
          → Out pool other words before sizes c t₀ v n e (r + s) (i + 1)
      unfolding cell
      Out-next w s a h f g x y = record {
        few = omega arith;
        low = omega (arith, w.within i a);
        behind = λ j m. elim (below j i (omega arith)) [ inl z ↦ rw z (omega arith) | inr z ↦ omega (arith, o.behind j z) ];
        on = λ j m b. omega (arith, w.rising i j (omega arith) b);
        at = omega (arith, o.at, l.end, up_more (cell sizes) i);
        near = omega (arith, o.near);
        done = run_done;
        fresh = record { each = λ k m b. l.apart k (inr m) ∙ o.fresh.each k (omega arith) b };
        long = l.long ∙ o.long;
        past = run_Past (omega (arith, w.within i a));
      }

    -- the last run
    pub out_end : (v : List ℕ) (r : ℕ) → InOrder before c n → c ≤ i → Laid (spelling pool other words) (stored_use pool other words) t v u n p r → n ≤ length t₀
        → (r ≡ pointer_at pool other words before sizes c n) × Filled v n (use_place pool other words before sizes c) × Past n t₀ v
    unfolding pointer_at
    out_end v r w h l m =
        let on : (j : ℕ) → i ≤ j → j < c → n ≤ get_or before j 0 = λ j a b. absurd (omega arith) in
        let z : i ≡ c = omega (arith, o.few) in
        let b = bodies_ahead before sizes n i c o.few (λ j x. w.within j (omega arith)) (λ j x y. absurd (omega arith)) in (
          omega (arith, o.at, l.end),
          record { long = omega (arith, l.long, o.long); held = λ k x. run_done v n r l on k x },
          run_Past v n r l on (omega arith),
        )
