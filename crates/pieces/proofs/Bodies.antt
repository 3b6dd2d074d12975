-- A descriptor whose references count more is written as it lies, by a table whose entries stand as much later.
-- Assumes nothing.
use mathlib.Core.Path.{◌≡◌, sym, ap, ◌∙◌}
use mathlib.Core.List.{List}
use Prim.Native.Nat.{ℕ, ◌+◌, ◌-◌, ◌≤◌}
use native.Mathlib.Omega.{arith}
use lib.ListN.{length, get_or}
use lib.Seq.{sets}
use Rattle.reader.specs.Values.{Descriptor}
use Rattle.reader.specs.Records.{ShowsDescriptor}
use Rattle.meaning.specs.Normal.Size.{descriptor_size}
use Rattle.meaning.proofs.Normal.Mapped.{descriptor_size_lem}
use Rattle.meaning.specs.Stock.Form.{descriptor_with}
use Rattle.meaning.proofs.Stock.Mapped.{descriptor_mapped}
use Rattle.writing.specs.Source.{Known, renumber}
use Rattle.writing.specs.Wrote.{Room, Wrote}
use Rattle.interfaces.specs.Source.{DescriptorFit}
use Rattle.pieces.specs.Bodies.{Lying}

counted_place : (place : List ℕ) (shift r : ℕ) → renumber place 0 (shift + r) ≡ renumber place shift r
unfolding renumber
counted_place place shift r = let z : 0 + (shift + r) - 1 ≡ shift + r - 1 = omega arith in ap (λ (k : ℕ). get_or place k 0) z

module _ {pool : List ℕ} {shift u q : ℕ} where
  pub Lying-Room : {d : Descriptor ℕ} {e n : ℕ} → Lying pool shift u q d e → descriptor_size d ≤ n → Room (Known (ShowsDescriptor pool) (DescriptorFit shift u) (q - 1)) descriptor_size n
  Lying-Room l h = record { value = l.stored; end = _; shown = l.known; room = omega (arith, h, ap descriptor_size l.counted, descriptor_size_lem (λ (r : ℕ). shift + r) l.stored) }

  module _ (place : List ℕ) (at : ℕ → ℕ) where
    same_bytes : {d : Descriptor ℕ} {e : ℕ} (l : Lying pool shift u q d e) → descriptor_with (renumber place shift) at u l.stored ≡ descriptor_with (renumber place 0) at u d
    same_bytes l =
        sym
        (ap (descriptor_with (renumber place 0) at u) l.counted
        ∙ descriptor_mapped (renumber place 0) (λ (r : ℕ). shift + r) at u l.stored
        ∙ (λ i. descriptor_with (λ (r : ℕ). counted_place place shift r i) at u l.stored))

    pub Lying-Wrote : {d : Descriptor ℕ} {e r : ℕ} {l₀ l₁ : List ℕ} → Wrote (Known (ShowsDescriptor pool) (DescriptorFit shift u) (q - 1)) (descriptor_with (renumber place shift) at u) l₀ r l₁
        → Lying pool shift u q d e → (r ≡ length (descriptor_with (renumber place 0) at u d)) × (l₁ ≡ sets l₀ 0 (descriptor_with (renumber place 0) at u d))
    Lying-Wrote {d} {e} {r} {l₀} w l =
        let b = w.each l.stored e l.known in
        (b.0 ∙ ap length (same_bytes l), b.1 ∙ ap (sets l₀ 0) (same_bytes l))
