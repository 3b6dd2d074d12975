-- The words of uses, written one after another.
-- Assumes nothing.
use mathlib.Core.Path.{◌≡◌, refl, sym, ap, ◌∙◌}
use mathlib.Core.List.{List, [], ◌++◌, append_assoc, append-nil}
use Prim.Native.Nat.{ℕ, suc, ◌+◌, ◌-◌, ◌≤◌, ◌<◌}
use native.Mathlib.Omega.{arith}
use lib.ListN.{length, length-append}
use lib.Seq.{sets, length-sets}
use Rattle.number.proofs.Choice.{is_eq, no_eq}
use Rattle.meaning.specs.Normal.Size.{name_size}
use Rattle.meaning.specs.Normal.Record.{name_bytes}
use Rattle.meaning.specs.Stock.Uses.{kept_size}
use Rattle.meaning.specs.Stock.Form.{kept_bytes}
use Rattle.meaning.proofs.Stock.Lengths.{length_kept}
use Rattle.writing.proofs.Lent.{rest, back, lent_after, length-rest}
use Rattle.pieces.specs.Uses.{reached, uses_with}

-- ---- one use

module _ (at : ℕ → ℕ) (p u : ℕ) (v : List ℕ) where
  pub use_passed : (l : List ℕ) → (at u ≡ p → ⊥) → (0 ≡ kept_size (reached at p) u v) × (l ≡ sets l 0 (kept_bytes (reached at p) u v))
  unfolding kept_size kept_bytes reached
  use_passed l n = (no_eq (at u) p (name_size v) 0 n refl, ap (sets l 0) (no_eq (at u) p (name_bytes v) [] n refl))

  module _ (h : at u ≡ p) (v₁ : List ℕ) (e : v₁ ≡ v) where
    pub use_room : {n : ℕ} → kept_size (reached at p) u v ≤ n → name_size v₁ ≤ n
    unfolding kept_size reached
    use_room l = omega (arith, ap name_size e, is_eq (at u) p (name_size v) 0 h refl, l)

    pub use_put : {r : ℕ} (l l₁ : List ℕ) → (r ≡ name_size v₁) × (l₁ ≡ sets l 0 (name_bytes v₁)) → (r ≡ kept_size (reached at p) u v) × (l₁ ≡ sets l 0 (kept_bytes (reached at p) u v))
    unfolding kept_size kept_bytes reached
    use_put l l₁ a = (is_eq (at u) p (name_size v) 0 h (a.0 ∙ ap name_size e), a.1 ∙ ap (sets l 0) (is_eq (at u) p (name_bytes v) [] h (ap name_bytes e)))

-- ---- several

module _ (at : ℕ → ℕ) (word : ℕ → List ℕ) where
  -- of the uses from u up to e those before k are written, in w bytes
  pub record Storing (u e p : ℕ) (before : List ℕ) (k w : ℕ) (after : List ℕ) : Type 0 where
    pub done : List ℕ
    pub count : w ≡ length done
    pub stored : after ≡ sets before 0 done
    pub bytes : uses_with at word (e - u) u p ≡ done ++ uses_with at word (e - k) k (p + w)
    pub room : length (uses_with at word (e - u) u p) ≤ length before

module _ {at : ℕ → ℕ} {word : ℕ → List ℕ} {u e p : ℕ} where
  pub Storing-start : {l : List ℕ} → length (uses_with at word (e - u) u p) ≤ length l → Storing at word u e p l u 0 l
  Storing-start h = let z : p ≡ p + 0 = omega arith in record { done = []; count = refl; stored = refl; bytes = ap (uses_with at word (e - u) u) z; room = h }

  module _ {before : List ℕ} {k w : ℕ} {after : List ℕ} (h : Storing at word u e p before k w after) where
    left : List ℕ
    left = uses_with at word (e - k) k (p + w)

    pub storing_kept : length after ≡ length before
    storing_kept = ap length h.stored ∙ length-sets before 0 h.done

    storing_room : w + length left ≤ length after
    unfolding left
    storing_room = omega (arith, ap length h.bytes ∙ length-append h.done left, h.count, h.room, storing_kept)

    pub storing_within : w ≤ length after
    storing_within = omega (arith, storing_room)

    module _ (l : k < e) where
      abbrev one : List ℕ
      one = kept_bytes (reached at (p + w)) k (word k)

      abbrev size : ℕ
      size = kept_size (reached at (p + w)) k (word k)

      split : left ≡ one ++ uses_with at word (e - (k + 1)) (k + 1) (p + w + size)
      unfolding left uses_with
      split = let z : e - k ≡ suc (e - (k + 1)) = omega arith in ap (λ (n : ℕ). uses_with at word n k (p + w)) z

      pub storing_first : kept_size (reached at (p + w)) k (word k) ≤ length (rest after w)
      storing_first = rw (length-rest after w) (omega (arith, storing_room, ap length split ∙ length-append one (uses_with at word (e - (k + 1)) (k + 1) (p + w + size)), length_kept (reached at (p + w)) k (word k)))

      pub Storing-next : {r : ℕ} (ys : List ℕ) → (r ≡ kept_size (reached at (p + w)) k (word k)) × (ys ≡ sets (rest after w) 0 (kept_bytes (reached at (p + w)) k (word k))) → Storing at word u e p before (k + 1) (w + r) (back after w ys)
      unfolding left
      Storing-next {r} ys a =
          let z : p + w + size ≡ p + (w + r) = omega (arith, a.0) in
          let more = uses_with at word (e - (k + 1)) (k + 1) (p + (w + r)) in
          let s : left ≡ one ++ more = split ∙ ap (λ (j : ℕ). one ++ uses_with at word (e - (k + 1)) (k + 1) j) z in
          record {
            done = h.done ++ one;
            count = omega (arith, h.count, a.0, length-append h.done one, length_kept (reached at (p + w)) k (word k));
            stored = lent_after before after ys h.done one w h.stored h.count a.1;
            bytes = h.bytes ∙ ap (λ (v : List ℕ). h.done ++ v) s ∙ sym (append_assoc h.done one more);
            room = h.room;
          }

    pub storing_done : e ≤ k → (w ≡ length (uses_with at word (e - u) u p)) × (after ≡ sets before 0 (uses_with at word (e - u) u p))
    unfolding uses_with
    storing_done l =
        let z : e - k ≡ 0 = omega arith in
        let d : uses_with at word (e - u) u p ≡ h.done = h.bytes ∙ ap (λ (n : ℕ). h.done ++ uses_with at word n k (p + w)) z ∙ append-nil h.done in
        (h.count ∙ ap length (sym d), h.stored ∙ ap (sets before 0) (sym d))
