-- The descriptor that a table leads to, if any.
-- Assumes nothing.
use mathlib.Core.Path.{◌≡◌, sym, ap, ◌∙◌}
use mathlib.Core.List.{List}
use Prim.Native.Nat.{ℕ}
use native.Mathlib.Omega.{arith}
use lib.ListN.{length}
use lib.Seq.{sets}
use Rattle.meaning.specs.Normal.Size.{descriptor_size}
use Rattle.meaning.specs.Stock.Uses.{own_body}
use Rattle.meaning.specs.Stock.Form.{descriptor_with}
use Rattle.pieces.specs.Bodies.{Body}
use Rattle.writing.specs.Wrote.{Room, Wrote}
use Rattle.pooling.specs.Tabled.{OwnLed, own_with}

module _ {pool other : List ℕ} {n u b : ℕ} where
  pub Body-Room : {k : ℕ} → (b ≡ 0 → ⊥) → Room (OwnLed pool other n u b) own_body k → Room (Body pool other n u b) descriptor_size k
  unfolding own_body
  Body-Room h r = let p = r.shown.present h in record { value = p.0; end = r.end; shown = p.2; room = omega (arith, r.room, ap own_body p.1) }

  module _ (f at : ℕ → ℕ) (l : List ℕ) where
    pub own_none : b ≡ 0 → Wrote (OwnLed pool other n u b) (own_with f at u) l 0 l
    unfolding own_with
    own_none h = record { each = λ d e o. let z = ap (own_with f at u) (o.absent h) in (ap length (sym z), ap (sets l 0) (sym z)) }

    pub own_some : {r : ℕ} {l₁ : List ℕ} → (b ≡ 0 → ⊥) → Wrote (Body pool other n u b) (descriptor_with f at u) l r l₁ → Wrote (OwnLed pool other n u b) (own_with f at u) l r l₁
    unfolding own_with
    own_some h w = record {
      each = λ d e o.
          let p = o.present h in
          let z = ap (own_with f at u) p.1 in
          let y = w.each p.0 e p.2 in
          (y.0 ∙ ap length (sym z), y.1 ∙ ap (sets l 0) (sym z));
    }
