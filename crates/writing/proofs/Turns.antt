-- Records in turn, written one after another.
-- Assumes nothing.
use mathlib.Core.Path.{◌≡◌, refl, sym, ap, ◌∙◌}
use mathlib.Core.List.{List, [], ◌∷◌, ◌++◌, append_assoc, append-nil}
use Prim.Native.Nat.{ℕ, suc, ◌+◌, ◌-◌, ◌≤◌, ◌<◌}
use native.Mathlib.Omega.{arith}
use lib.ListN.{length, length-append}
use lib.Seq.{sets, length-sets}
use Rattle.reader.specs.Layout.{Rows}
use Rattle.meaning.specs.Normal.Size.{sum}
use Rattle.writing.specs.Wrote.{Room, Wrote}
use Rattle.writing.proofs.Lent.{rest, back, lent, lent_after, length-rest}

-- `all u` writes records that P shows: the first by `one u`, those after it by `all (u + 1)`. Where it is shown and where it is written, x has `size x` bytes
pub record Writes {X : Type 0} (P : ℕ → X → ℕ → Type 0) (one : ℕ → X → List ℕ) (all : ℕ → List X → List ℕ) (size : X → ℕ) : Type 0 where
  pub none : (u : ℕ) → all u [] ≡ []
  pub more : (u : ℕ) (x : X) (xs : List X) → all u (x ∷ xs) ≡ one u x ++ all (u + 1) xs
  pub long : (u : ℕ) (x : X) → length (one u x) ≡ size x
  pub ended : (p : ℕ) (x : X) (e : ℕ) → P p x e → e ≡ p + size x

module _ {X : Type 0} (P : ℕ → X → ℕ → Type 0) where
  -- the first of one or more records, and those after it
  record First (m p : ℕ) (xs : List X) (e : ℕ) : Type 0 where
    pub head : X
    pub tail : List X
    pub is : xs ≡ head ∷ tail
    pub mid : ℕ
    pub shown : P p head mid
    pub rows : Rows P m mid tail e

  first : (m p : ℕ) (xs : List X) (e : ℕ) → Rows P (suc m) p xs e → First m p xs e
  first m p [] e r = absurd (omega (arith, r.count))
  first m p (x ∷ xs) e r = record { head = x; tail = xs; is = refl; mid = r.run.0; shown = r.run.1; rows = record { count = omega (arith, r.count); run = r.run.2 } }

  empty : (m p : ℕ) (xs : List X) (e : ℕ) → m ≡ 0 → Rows P m p xs e → xs ≡ []
  empty m p [] e z r = refl
  empty m p (x ∷ xs) e z r = absurd (omega (arith, r.count))

module _ {X : Type 0} (P : ℕ → X → ℕ → Type 0) (one : ℕ → X → List ℕ) (all : ℕ → List X → List ℕ) (size : X → ℕ) where
  -- m records are left, from p on to e, the first with u; w bytes are written
  pub record Turn (m p u w : ℕ) (whole before after : List ℕ) (e : ℕ) : Type 0 where
    pub tail : List X
    pub rows : Rows P m p tail e
    pub done : List ℕ
    pub bytes : whole ≡ done ++ all u tail
    pub count : w ≡ length done
    pub stored : after ≡ sets before 0 done

  -- of n records from `at` on, the first with u, k are written in w bytes, and the others have room
  pub record Writing (n at u : ℕ) (before : List ℕ) (k w : ℕ) (after : List ℕ) : Type 0 where
    pub how : Writes P one all size
    pub few : k ≤ n
    pub kept : length after ≡ length before
    pub within : w ≤ length after
    pub left : Room (Rows P (n - k) (at + w)) (sum size) (length after - w)
    pub each : (xs : List X) (e : ℕ) → Rows P n at xs e → Turn (n - k) (at + w) (u + k) w (all u xs) before after e

module _ {X : Type 0} {P : ℕ → X → ℕ → Type 0} {one : ℕ → X → List ℕ} {all : ℕ → List X → List ℕ} {size : X → ℕ} where
  pub Writing-start : {n at u : ℕ} {l : List ℕ} → Writes P one all size → Room (Rows P n at) (sum size) (length l) → Writing P one all size n at u l 0 0 l
  Writing-start {n} {at} {u} {l} how room =
      let z : n - 0 ≡ n = omega arith in
      let y : at + 0 ≡ at = omega arith in
      let x : u ≡ u + 0 = omega arith in
      record {
        how = how;
        few = omega arith;
        kept = refl;
        within = omega arith;
        left = record { value = room.value; end = room.end; shown = rw (z, y) room.shown; room = omega (arith, room.room) };
        each = λ xs e r. record { tail = xs; rows = rw (z, y) r; done = []; bytes = ap (λ (j : ℕ). all j xs) x; count = refl; stored = refl };
      }

  module _ {n at u : ℕ} {before : List ℕ} {k w : ℕ} {after : List ℕ} (h : Writing P one all size n at u before k w after) where
    module _ (l : k < n) where
      opened : (xs : List X) (e : ℕ) → Rows P (n - k) (at + w) xs e → First P (n - (k + 1)) (at + w) xs e
      opened xs e r = let z : n - k ≡ suc (n - (k + 1)) = omega arith in first P (n - (k + 1)) (at + w) xs e (rw (← z) r)

      next : First P (n - (k + 1)) (at + w) h.left.value h.left.end
      next = opened h.left.value h.left.end h.left.shown

      next_room : size next.head + sum size next.tail ≤ length after - w
      unfolding sum
      next_room = let s : sum size h.left.value ≡ size next.head + sum size next.tail = ap (sum size) next.is in omega (arith, h.left.room, s)

      pub writing_first : Room (P (at + w)) size (length (rest after w))
      writing_first = record { value = next.head; end = next.mid; shown = next.shown; room = rw (length-rest after w) (omega (arith, next_room)) }

      module _ {r : ℕ} (ys : List ℕ) (wrote : Wrote (P (at + w)) (one (u + k)) (rest after w) r ys) where
        size_is : (x : X) (e : ℕ) → P (at + w) x e → r ≡ size x
        size_is x e s = (wrote.each x e s).0 ∙ h.how.long (u + k) x

        ends_at : (x : X) (e : ℕ) → P (at + w) x e → at + (w + r) ≡ e
        ends_at x e s = omega (arith, size_is x e s, h.how.ended (at + w) x e s)

        same_length : length (back after w ys) ≡ length after
        same_length =
            let x = next.head in
            ap length (lent after ys (one (u + k) x) w (wrote.each x next.mid next.shown).1) ∙ length-sets after w (one (u + k) x)

        pub Writing-next : Writing P one all size n at u before (k + 1) (w + r) (back after w ys)
        Writing-next =
            let z = size_is next.head next.mid next.shown in
            record {
              how = h.how;
              few = omega arith;
              kept = same_length ∙ h.kept;
              within = omega (arith, z, next_room, same_length, h.within);
              left = record { value = next.tail; end = h.left.end; shown = rw (ends_at next.head next.mid next.shown) next.rows; room = omega (arith, z, next_room, same_length) };
              each = on;
            }
          where
            on : (xs : List X) (e : ℕ) → Rows P n at xs e → Turn P one all size (n - (k + 1)) (at + (w + r)) (u + (k + 1)) (w + r) (all u xs) before (back after w ys) e
            on xs e rows =
                let t = h.each xs e rows in
                let f = opened t.tail e t.rows in
                let x = f.head in
                let b = wrote.each x f.mid f.shown in
                let z : u + k + 1 ≡ u + (k + 1) = omega arith in
                let split : all (u + k) t.tail ≡ one (u + k) x ++ all (u + (k + 1)) f.tail =
                ap (all (u + k)) f.is ∙ h.how.more (u + k) x f.tail ∙ ap (λ (j : ℕ). one (u + k) x ++ all j f.tail) z in
                record {
                  tail = f.tail;
                  rows = rw (ends_at x f.mid f.shown) f.rows;
                  done = t.done ++ one (u + k) x;
                  bytes = t.bytes ∙ ap (λ (v : List ℕ). t.done ++ v) split ∙ sym (append_assoc t.done (one (u + k) x) (all (u + (k + 1)) f.tail));
                  count = omega (arith, t.count, b.0, length-append t.done (one (u + k) x));
                  stored = lent_after before after ys t.done (one (u + k) x) w t.stored t.count b.1;
                }

    pub writing_done : n ≤ k → Wrote (Rows P n at) (all u) before w after
    writing_done l = record { each = on }
      where
        on : (xs : List X) (e : ℕ) → Rows P n at xs e → (w ≡ length (all u xs)) × (after ≡ sets before 0 (all u xs))
        on xs e rows =
            let t = h.each xs e rows in
            let z = empty P (n - k) (at + w) t.tail e (omega arith) t.rows in
            let d : all u xs ≡ t.done = t.bytes ∙ ap (λ (v : List X). t.done ++ all (u + k) v) z ∙ ap (λ (v : List ℕ). t.done ++ v) (h.how.none (u + k)) ∙ append-nil t.done in
            (t.count ∙ ap length (sym d), t.stored ∙ ap (sets before 0) (sym d))

-- what was written had room
pub Wrote-most : {X : Type 0} {P : X → ℕ → Type 0} {one : X → List ℕ} {l l₁ : List ℕ} {r n : ℕ} {size : X → ℕ} → Wrote P one l r l₁ → ((x : X) → length (one x) ≡ size x) → Room P size n → r ≤ n
Wrote-most w len h = omega (arith, (w.each h.value h.end h.shown).0, len h.value, h.room)
