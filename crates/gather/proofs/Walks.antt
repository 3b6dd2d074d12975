-- Records in turn whose names are noted.
-- Assumes nothing.
use mathlib.Core.Path.{◌≡◌, refl, sym, ap, ◌∙◌}
use mathlib.Core.List.{List, [], ◌∷◌, ◌++◌, map, append_assoc, append-nil}
use Prim.Native.Nat.{ℕ, suc, ◌+◌, ◌-◌, ◌≤◌, ◌<◌}
use native.Mathlib.Omega.{arith}
use lib.ListN.{length, set, length-set, length-append}
use Rattle.key.proofs.Walks.{Leads-in}
use Rattle.reader.specs.Layout.{Stands, Ends, Names, Rows}
use Rattle.writing.specs.Source.{Known}
use Rattle.gather.specs.Words.{Named, Based, PutWords, PutNames}
use Rattle.gather.proofs.Words.{put_none, put_one, put_then, put_same}

-- the pointer q to the name of the record at p, and `base`
module _ {X : Type 0} {P : ℕ → X → ℕ → Type 0} {name : X → List ℕ} {pool : List ℕ} {p q : ℕ} (spelt : Names (P p) name pool q) where
  pub name_Based : (base w : ℕ) → w ≡ base + q → (x : X) (e : ℕ) → Known P (Named name) p x e → Based pool base w (name x)
  name_Based base w z x e h = record { pointer = q; is = z; spells = spelt.each x e h.shown h.fact }

  pub name_small : Stands (Known P (Named name) p) → q ≤ length pool
  name_small h = omega (arith, Leads-in pool q (spelt.each h.value h.end h.shown.shown h.shown.fact).leads)

-- what is known ends where it is shown to end
pub Ends-Known : {X : Type 0} {P : ℕ → X → ℕ → Type 0} {Q : X → Type 0} {p r : ℕ} → Ends (P p) r → Ends (Known P Q p) r
Ends-Known a = record { each = λ x e h. a.each x e h.shown }

module _ {X : Type 0} (P : ℕ → X → ℕ → Type 0) (name : X → List ℕ) (pool : List ℕ) (base : ℕ) where
  -- the first of one or more records, and those after it
  record First (m p : ℕ) (xs : List X) (e : ℕ) : Type 0 where
    pub head : X
    pub tail : List X
    pub is : xs ≡ head ∷ tail
    pub mid : ℕ
    pub shown : P p head mid
    pub rows : Rows P m mid tail e

  first : (m p : ℕ) (xs : List X) (e : ℕ) → Rows P (suc m) p xs e → First m p xs e
  first m p [] e r = absurd (omega (arith, r.count))
  first m p (x ∷ xs) e r = record { head = x; tail = xs; is = refl; mid = r.run.0; shown = r.run.1; rows = record { count = omega (arith, r.count); run = r.run.2 } }

  none : (m p : ℕ) (xs : List X) (e : ℕ) → m ≡ 0 → Rows P m p xs e → (xs ≡ []) × (p ≡ e)
  none m p [] e z r = (refl, r.run)
  none m p (x ∷ xs) e z r = absurd (omega (arith, r.count))

  -- m records are left, from p on to e; the names of the k before them are put
  pub record Turn (t v : List ℕ) (u k m p : ℕ) (xs : List X) (e : ℕ) : Type 0 where
    pub done : List (List ℕ)
    pub tail : List X
    pub rows : Rows P m p tail e
    pub words : map name xs ≡ done ++ map name tail
    pub count : length done ≡ k
    pub put : PutWords (Based pool base) t v u done

  -- of n records from `at` on the names of k are put
  pub record Noting (n at u : ℕ) (t : List ℕ) (k p : ℕ) (v : List ℕ) : Type 0 where
    pub few : k ≤ n
    pub long : length v ≡ length t
    pub stands : Stands (Rows P (n - k) p)
    pub each : (xs : List X) (e : ℕ) → Rows P n at xs e → Turn t v u k (n - k) p xs e

  pub Noting-start : (n at u : ℕ) (t : List ℕ) → Stands (Rows P n at) → Noting n at u t 0 at t
  Noting-start n at u t s =
      let z : n - 0 ≡ n = omega arith in
      record { few = omega arith; long = refl; stands = rw z s; each = λ xs e r. record { done = []; tail = xs; rows = rw z r; words = refl; count = refl; put = put_none (Based pool base) t u } }

  module _ (n at u : ℕ) (t : List ℕ) (k p : ℕ) (v : List ℕ) (h : Noting n at u t k p v) where
    opened : k < n → (xs : List X) (e : ℕ) → Rows P (n - k) p xs e → First (n - (k + 1)) p xs e
    opened l xs e r = let z : n - k ≡ suc (n - (k + 1)) = omega arith in first (n - (k + 1)) p xs e (rw (← z) r)

    pub noting_first : k < n → Stands (P p)
    noting_first l = let f = opened l _ _ h.stands.shown in record { value = f.head; end = f.mid; shown = f.shown }

    pub Noting-next : k < n → u + n ≤ length t → (p₁ w : ℕ) → Ends (P p) p₁ → ((x : X) (e : ℕ) → P p x e → Based pool base w (name x)) → Noting n at u t (k + 1) p₁ (set v (u + k) w)
    Noting-next l room p₁ w ends spelt = record {
      few = omega arith;
      long = simp length-set h.long;
      stands = let f = opened l _ _ h.stands.shown in record { value = f.tail; end = h.stands.end; shown = rw (ends.each f.head f.mid f.shown) f.rows };
      each = on;
    }
      where
        on : (xs : List X) (e : ℕ) → Rows P n at xs e → Turn t (set v (u + k) w) u (k + 1) (n - (k + 1)) p₁ xs e
        on xs e rows =
            let a = h.each xs e rows in
            let f = opened l a.tail e a.rows in
            let x = name f.head in
            record {
              done = a.done ++ (x ∷ []);
              tail = f.tail;
              rows = rw (ends.each f.head f.mid f.shown) f.rows;
              words = a.words ∙ ap (λ (ys : List X). a.done ++ map name ys) f.is ∙ sym (append_assoc a.done (x ∷ []) (map name f.tail));
              count = omega (arith, length-append a.done (x ∷ []), a.count);
              put = put_then (Based pool base) t v (set v (u + k) w) u (u + k) a.done (x ∷ []) (omega (arith, a.count)) a.put
                  (put_one (Based pool base) v (u + k) w x (omega (arith, h.long)) (spelt f.head f.mid f.shown));
            }

    pub noting_done : n ≤ k → PutNames P name n at pool base t v u p
    noting_done l = record { ends = record { each = λ xs e rows. let a = h.each xs e rows in (none (n - k) p a.tail e (omega arith) a.rows).1 }; long = h.long; each = on }
      where
        on : (xs : List X) (e : ℕ) → Rows P n at xs e → PutWords (Based pool base) t v u (map name xs)
        on xs e rows =
            let a = h.each xs e rows in
            let z = (none (n - k) p a.tail e (omega arith) a.rows).0 in
            put_same (Based pool base) t v u a.done (map name xs) (sym (a.words ∙ ap (λ (ys : List X). a.done ++ map name ys) z ∙ append-nil a.done)) a.put
