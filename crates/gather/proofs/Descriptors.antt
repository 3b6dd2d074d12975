-- Descriptors whose names are noted: those of the methods, then those of the constants.
-- Assumes nothing.
use mathlib.Core.Path.{◌≡◌, ap, ◌∙◌}
use mathlib.Core.List.{List, map}
use mathlib.Core.Option.{Option}
use Prim.Native.Nat.{ℕ, ◌+◌, ◌-◌, ◌≤◌}
use native.Mathlib.Omega.{arith}
use lib.ListN.{length, length-append, length-map}
use Rattle.number.specs.Number.{be}
use Rattle.reader.specs.Values.{Method, method_name, Constant, constant_name, Descriptor, descriptor}
use Rattle.reader.specs.Records.{ShowsMethod, ShowsConstant, ShowsDescriptor}
use Rattle.reader.specs.Layout.{Stands, Rows}
use Rattle.meaning.specs.Normal.Size.{descriptor_size}
use Rattle.meaning.specs.Stock.Uses.{names_of}
use Rattle.writing.specs.Source.{Known}
use Rattle.writing.specs.Wrote.{Room}
use Rattle.writing.proofs.Sources.{Rows-Known}
use Rattle.writing.proofs.Sizes as sizes
use Rattle.gather.specs.declared.Passed.{Passed}
use Rattle.gather.specs.Words.{Named, NamedDescriptor, Based, PutWords, PutNames, PutDescriptor}
use Rattle.gather.proofs.Words.{put_then}

abbrev Shown : List ℕ → ℕ → Descriptor ℕ → ℕ → Type 0
Shown s p = Known (ShowsDescriptor s) NamedDescriptor p

pub names_many : (up : Option ℕ) (ms : List (Method ℕ)) (ks : List Constant) (f : ℕ) → length (names_of (descriptor up ms ks f)) ≡ length ms + length ks
unfolding names_of
names_many up ms ks f = omega (arith, length-append (map method_name ms) (map constant_name ks), length-map ms method_name, length-map ks constant_name)

module _ {s : List ℕ} {p n : ℕ} (z : n ≡ be 2 s (p + 2)) where
  methods : (up : Option ℕ) (ms : List (Method ℕ)) (ks : List Constant) (f e : ℕ) (k : Shown s p (descriptor up ms ks f) e) → Rows (Known (ShowsMethod s) (Named method_name)) n (p + 4) ms k.shown.2.0
  methods up ms ks f e k = Rows-Known (ShowsMethod s) (Named method_name) n (p + 4) ms k.shown.2.0 (z ∙ k.shown.1.value) k.shown.2.1 k.fact.0

  pub methods_stand : Stands (Shown s p) → Stands (Rows (Known (ShowsMethod s) (Named method_name)) n (p + 4))
  methods_stand h = go h.value h.end h.shown
    where
      go : (d : Descriptor ℕ) (e : ℕ) → Shown s p d e → Stands (Rows (Known (ShowsMethod s) (Named method_name)) n (p + 4))
      go (descriptor up ms ks f) e k = record { value = ms; end = k.shown.2.0; shown = methods up ms ks f e k }

  pub methods_few : {l : ℕ} → Room (Shown s p) (λ (d : Descriptor ℕ). length (names_of d)) l → n ≤ l
  methods_few {l} h = go h.value h.end h.shown h.room
    where
      go : (d : Descriptor ℕ) (e : ℕ) → Shown s p d e → length (names_of d) ≤ l → n ≤ l
      go (descriptor up ms ks f) e k a = omega (arith, names_many up ms ks f, z, k.shown.1.value)

  module _ {base u r : ℕ} {t v : List ℕ} (a : PutNames (Known (ShowsMethod s) (Named method_name)) method_name n (p + 4) s base t v u r) where
    -- the constants stand where the methods end
    mid : (up : Option ℕ) (ms : List (Method ℕ)) (ks : List Constant) (f e : ℕ) (k : Shown s p (descriptor up ms ks f) e) → r ≡ k.shown.2.0
    mid up ms ks f e k = a.ends.each ms k.shown.2.0 (methods up ms ks f e k)

    pub constants_in : Stands (Shown s p) → r + 2 ≤ length s
    constants_in h = go h.value h.end h.shown
      where
        go : (d : Descriptor ℕ) (e : ℕ) → Shown s p d e → r + 2 ≤ length s
        go (descriptor up ms ks f) e k = omega (arith, mid up ms ks f e k, k.shown.2.2.inside)

    module _ {m : ℕ} (y : m ≡ be 2 s r) where
      constants : (up : Option ℕ) (ms : List (Method ℕ)) (ks : List Constant) (f e : ℕ) (k : Shown s p (descriptor up ms ks f) e) → Rows (Known (ShowsConstant s) (Named constant_name)) m (r + 2) ks k.shown.2.3.0
      constants up ms ks f e k =
          let q = mid up ms ks f e k in
          Rows-Known (ShowsConstant s) (Named constant_name) m (r + 2) ks k.shown.2.3.0 (y ∙ ap (be 2 s) q ∙ k.shown.2.2.value) (rw q k.shown.2.3.1) k.fact.1

      pub constants_stand : Stands (Shown s p) → Stands (Rows (Known (ShowsConstant s) (Named constant_name)) m (r + 2))
      constants_stand h = go h.value h.end h.shown
        where
          go : (d : Descriptor ℕ) (e : ℕ) → Shown s p d e → Stands (Rows (Known (ShowsConstant s) (Named constant_name)) m (r + 2))
          go (descriptor up ms ks f) e k = record { value = ks; end = k.shown.2.3.0; shown = constants up ms ks f e k }

      pub names_few : {l : ℕ} → Room (Shown s p) (λ (d : Descriptor ℕ). length (names_of d)) l → n + m ≤ l
      names_few {l} h = go h.value h.end h.shown h.room
        where
          go : (d : Descriptor ℕ) (e : ℕ) → Shown s p d e → length (names_of d) ≤ l → n + m ≤ l
          go (descriptor up ms ks f) e k b = omega (arith, names_many up ms ks f, z, k.shown.1.value, (constants up ms ks f e k).count)

      module _ {w : List ℕ} {q : ℕ} (b : PutNames (Known (ShowsConstant s) (Named constant_name)) constant_name m (r + 2) s base v w (u + n) q) where
        -- where it ends
        end : (up : Option ℕ) (ms : List (Method ℕ)) (ks : List Constant) (f e : ℕ) → Shown s p (descriptor up ms ks f) e → e ≡ q + 1
        end up ms ks f e k = omega (arith, b.ends.each ks k.shown.2.3.0 (constants up ms ks f e k), k.shown.2.3.3)

        pub end_in : Stands (Shown s p) → (p ≤ q) × (q + 1 ≤ length s)
        unfolding descriptor_size
        end_in h = go h.value h.end h.shown
          where
            go : (d : Descriptor ℕ) (e : ℕ) → Shown s p d e → (p ≤ q) × (q + 1 ≤ length s)
            go (descriptor up ms ks f) e k =
                let j = end up ms ks f e k in
                (omega (arith, j, sizes.descriptor_end s p (descriptor up ms ks f) e k.shown), omega (arith, j, k.shown.2.3.3, k.shown.2.3.2.inside))

        pub descriptor_noted : (x : Passed) → x.next ≡ u + n + m → x.size ≡ q + 1 - p → PutDescriptor (Shown s p) s base t w u x
        unfolding names_of
        descriptor_noted x i j = record { next = next; size = size; words = words }
          where
            next : (d : Descriptor ℕ) (e : ℕ) → Shown s p d e → x.next ≡ u + length (names_of d)
            next (descriptor up ms ks f) e k = omega (arith, i, names_many up ms ks f, z, k.shown.1.value, (constants up ms ks f e k).count)

            size : (d : Descriptor ℕ) (e : ℕ) → Shown s p d e → x.size ≡ descriptor_size d
            size (descriptor up ms ks f) e k = omega (arith, j, end up ms ks f e k, sizes.descriptor_end s p (descriptor up ms ks f) e k.shown)

            words : (d : Descriptor ℕ) (e : ℕ) → Shown s p d e → PutWords (Based s base) t w u (names_of d)
            words (descriptor up ms ks f) e k =
                let c = methods up ms ks f e k in
                put_then (Based s base) t v w u (u + n) (map method_name ms) (map constant_name ks) (omega (arith, length-map ms method_name, c.count))
                (a.each ms k.shown.2.0 c) (b.each ks k.shown.2.3.0 (constants up ms ks f e k))
