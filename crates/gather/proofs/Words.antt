-- Words put one after another, and pointers that lead to them.
-- Assumes nothing.
use mathlib.Core.Path.{◌≡◌, refl, sym, ap, ◌∙◌}
use mathlib.Core.List.{List, [], ◌∷◌, ◌++◌}
use Prim.Native.Nat.{ℕ, ◌+◌, ◌-◌, ◌≤◌, ◌<◌}
use native.Mathlib.Decide.{dec_le}
use native.Mathlib.Omega.{arith}
use lib.ListN.{length, get_or, set, length-set, length-append, get_or-append}
use lib.Seq.{get_or-set_same, get_or-set_other, get_or-append-add}
use Rattle.number.specs.Limits.{file_limit}
use Rattle.key.proofs.Walks.{Leads-in}
use Rattle.reader.specs.Layout.{Spells}
use Rattle.names.proofs.Words.{word_here, word_there}
use Rattle.gather.specs.Words.{Means, Based, PutWords}

module _ (P : ℕ → List ℕ → Type 0) where
  move : {a b : ℕ} {x y : List ℕ} → a ≡ b → x ≡ y → P b y → P a x
  move e f p = rw (e, f) p

  pub put_none : (t : List ℕ) (u : ℕ) → PutWords P t t u []
  put_none t u = record { long = refl; kept = λ k h. refl; each = λ k h. absurd (omega arith) }

  pub put_one : (v : List ℕ) (i w : ℕ) (x : List ℕ) → i < length v → P w x → PutWords P v (set v i w) i (x ∷ [])
  put_one v i w x l p = record {
    long = simp length-set refl;
    kept = λ k m. get_or-set_other v i k w 0 (λ z. omega arith);
    each = λ k m.
        let y : k ≡ 0 = omega arith in
        let z : i + k ≡ i = omega arith in
        move (ap (λ (j : ℕ). get_or (set v i w) j 0) z ∙ get_or-set_same v i w 0 l) (ap (λ (j : ℕ). get_or (x ∷ []) j []) y) p;
  }

  pub put_then : (t v z : List ℕ) (u m : ℕ) (ws xs : List (List ℕ)) → m ≡ u + length ws → PutWords P t v u ws → PutWords P v z m xs → PutWords P t z u (ws ++ xs)
  put_then t v z u m ws xs e a b = record {
    long = b.long ∙ a.long;
    kept = λ k h. b.kept k (omega arith) ∙ a.kept k h;
    each = λ k h. elim (dec_le (length ws) k) [
      | yes l ↦
          let y : u + k ≡ m + (k - length ws) = omega arith in
          let x : k ≡ length ws + (k - length ws) = omega arith in
          move (ap (λ (j : ℕ). get_or z j 0) y) (ap (λ (j : ℕ). get_or (ws ++ xs) j []) x ∙ get_or-append-add ws xs (k - length ws) []) (b.each (k - length ws) (omega (arith, length-append ws xs)))
      | no l ↦ move (b.kept (u + k) (omega arith)) (get_or-append ws xs [] k (omega arith)) (a.each k (omega arith))
    ];
  }

  pub put_same : (t v : List ℕ) (u : ℕ) (ws xs : List (List ℕ)) → ws ≡ xs → PutWords P t v u ws → PutWords P t v u xs
  put_same t v u ws xs e h = rw (← e) h

pub put_map : (P Q : ℕ → List ℕ → Type 0) → ((w : ℕ) (x : List ℕ) → P w x → Q w x) → (t v : List ℕ) (u : ℕ) (ws : List (List ℕ)) → PutWords P t v u ws → PutWords Q t v u ws
put_map P Q f t v u ws h = record { long = h.long; kept = h.kept; each = λ k l. f (get_or v (u + k) 0) (get_or ws k []) (h.each k l) }

-- ---- pointers into either pool

module _ (pool other : List ℕ) (small : length pool ≤ file_limit) (other_small : length other ≤ file_limit) where
  pub Means-here : (w : ℕ) (x : List ℕ) → Spells pool w x → Means pool other w x
  Means-here w x s =
      let l : w ≤ file_limit = omega (arith, Leads-in pool w s.leads) in
      record { led = record { small = small; other_small = other_small; here = λ _. s.leads; there = λ z. absurd (omega arith) }; word = sym (word_here pool other w l) ∙ s.word }

  pub Means-there : (w p : ℕ) (x : List ℕ) → w ≡ file_limit + p → Spells other p x → Means pool other w x
  Means-there w p x e s =
      let l : file_limit < w = omega (arith, s.leads.from) in
      let q : w - file_limit ≡ p = omega arith in
      record { led = record { small = small; other_small = other_small; here = λ z. absurd (omega arith); there = λ _. rw q s.leads }; word = sym (word_there pool other w l) ∙ rw q s.word }

  pub Based-here : (w : ℕ) (x : List ℕ) → Based pool 0 w x → Means pool other w x
  Based-here w x b = let e : w ≡ b.pointer = omega (arith, b.is) in rw e (Means-here b.pointer x b.spells)

  pub Based-there : (w : ℕ) (x : List ℕ) → Based other file_limit w x → Means pool other w x
  Based-there w x b = Means-there w b.pointer x b.is b.spells
