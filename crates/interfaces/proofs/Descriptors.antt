-- Descriptors: where their parts stand, their room, and their bytes.
-- Assumes nothing.
use mathlib.Core.Path.{◌≡◌, refl, sym, ap, ◌∙◌}
use mathlib.Core.Logic.{◌⊎◌, inl, inr}
use mathlib.Core.List.{List, [], ◌∷◌, ◌++◌, append_assoc}
use mathlib.Core.Option.{Option, none, some}
use Prim.Native.Nat.{ℕ, ◌+◌, ◌-◌, ◌≤◌}
use native.Mathlib.Omega.{arith}
use lib.ListN.{length, length-append, length-map}
use lib.Seq.{sets}
use Rattle.number.specs.Number.{be}
use Rattle.number.specs.Part.{part}
use Rattle.number.proofs.Choice.{is_eq, no_eq}
use Rattle.decimal.proofs.Stores.{chain}
use Rattle.names.specs.Uses.{use_limit}
use Rattle.reader.specs.Values.{Method, methods_of, Constant, Descriptor, descriptor, parent_of, parent_index}
use Rattle.reader.specs.Records.{ShowsMethod, ShowsConstant, ShowsDescriptor}
use Rattle.reader.specs.Layout.{Stands, Ends, Tells, Rows}
use Rattle.meaning.specs.Refs.{ParentRefs}
use Rattle.meaning.specs.Normal.BigEndian.{bytes_of}
use Rattle.meaning.specs.Normal.Size.{sum, method_size, constant_size, descriptor_size}
use Rattle.meaning.specs.Normal.Record.{parent_number}
use Rattle.meaning.proofs.Normal.Lengths.{length_bytes}
use Rattle.meaning.specs.Stock.Uses.{names_of}
use Rattle.meaning.specs.Stock.Form.{methods_with, constants_with, descriptor_with}
use Rattle.meaning.proofs.Stock.Lengths.{length_methods, length_constants}
use Rattle.writing.specs.Source.{Known, MethodFit, InTable, renumber}
use Rattle.interfaces.specs.Source.{DescriptorFit, renumber_parent, Tail, tail_of, TailAt, ShowsTail, TailFit, tail_size, tail_with}
use Rattle.writing.specs.Wrote.{Room, Wrote}
use Rattle.writing.proofs.Copies.{one_byte}
use Rattle.writing.proofs.Lent.{rest, back, lent_after}
use Rattle.writing.proofs.Sources.{Rows-Known}
use Rattle.writing.proofs.Sizes as sizes

-- ---- where the parts stand

-- one byte, the flags, is the last
end_in : (s : List ℕ) (p : ℕ) (x : Descriptor ℕ) (e : ℕ) → ShowsDescriptor s p x e → e ≤ length s
end_in s p (descriptor up ms ks f) e k = omega (arith, k.2.3.3, k.2.3.2.inside)

module _ {s : List ℕ} {p : ℕ} where
  pub front_in : Stands (ShowsDescriptor s p) → p + 4 ≤ length s
  front_in h = go h.value h.end h.shown
    where
      go : (d : Descriptor ℕ) (e : ℕ) → ShowsDescriptor s p d e → p + 4 ≤ length s
      go (descriptor up ms ks f) e k = omega (arith, k.1.inside)

  module _ {n : ℕ} (t : Tells (ShowsDescriptor s p) (λ (d : Descriptor ℕ). length (methods_of d)) n) where
    pub methods_stand : Stands (ShowsDescriptor s p) → Stands (Rows (ShowsMethod s) n (p + 4))
    unfolding methods_of
    methods_stand h = go h.value h.end h.shown
      where
        go : (d : Descriptor ℕ) (e : ℕ) → ShowsDescriptor s p d e → Stands (Rows (ShowsMethod s) n (p + 4))
        go (descriptor up ms ks f) e k = record { value = ms; end = k.2.0; shown = record { count = t.each (descriptor up ms ks f) e k; run = k.2.1 } }

    pub tail_at_lem : {r : ℕ} → Ends (Rows (ShowsMethod s) n (p + 4)) r → TailAt s p r
    unfolding methods_of tail_of
    tail_at_lem {r} d = record { each = go }
      where
        go : (x : Descriptor ℕ) (e : ℕ) → ShowsDescriptor s p x e → ShowsTail s r (tail_of x) e
        go (descriptor up ms ks f) e k =
            let z = d.each ms k.2.0 (record { count = t.each (descriptor up ms ks f) e k; run = k.2.1 }) in
            rw z (k.2.2, k.2.3)

  -- the constants
  module _ {r : ℕ} (t : TailAt s p r) where
    pub tail_in : Stands (ShowsDescriptor s p) → r + 2 ≤ length s
    tail_in h = (t.each h.value h.end h.shown).0.inside

    module _ {m : ℕ} (z : m ≡ be 2 s r) where
      pub constants_stand : Stands (ShowsDescriptor s p) → Stands (Rows (ShowsConstant s) m (r + 2))
      constants_stand h =
          let k = t.each h.value h.end h.shown in
          record { value = (tail_of h.value).constants; end = k.1.0; shown = record { count = z ∙ k.0.value; run = k.1.1 } }

      pub descriptor_Ends : {b : ℕ} → Ends (Rows (ShowsConstant s) m (r + 2)) b → Ends (ShowsDescriptor s p) (b + 1)
      descriptor_Ends d = record {
        each = λ x e h.
            let k = t.each x e h in
            omega (arith, d.each (tail_of x).constants k.1.0 (record { count = z ∙ k.0.value; run = k.1.1 }), k.1.3);
      }

  pub descriptor_within : {e : ℕ} → Ends (ShowsDescriptor s p) e → Stands (ShowsDescriptor s p) → (p ≤ e) × (e ≤ length s)
  descriptor_within d h =
      let z = d.each h.value h.end h.shown in
      (omega (arith, z, sizes.descriptor_end s p h.value h.end h.shown), omega (arith, z, end_in s p h.value h.end h.shown))

  pub size_Tells : {e : ℕ} → Ends (ShowsDescriptor s p) e → Tells (ShowsDescriptor s p) descriptor_size (e - p)
  size_Tells d = record { each = λ x e h. omega (arith, d.each x e h, sizes.descriptor_end s p x e h) }

-- ---- constants and flags

module _ (s : List ℕ) (u p m : ℕ) (z : m ≡ be 2 s p) where
  tail_Rows : (t : Tail) (e : ℕ) (k : Known (ShowsTail s) (TailFit u) p t e) → Rows (ShowsConstant s) m (p + 2) t.constants k.shown.1.0
  tail_Rows t e k = record { count = z ∙ k.shown.0.value; run = k.shown.1.1 }

  module _ (n : ℕ) (h : Room (Known (ShowsTail s) (TailFit u) p) tail_size n) where
    pub constants_Room : (2 ≤ n) × Room (Rows (ShowsConstant s) m (p + 2)) (sum constant_size) (n - 2) × (u + m ≤ use_limit)
    unfolding tail_size
    constants_Room = (omega (arith, h.room), record { value = h.value.constants; end = h.shown.shown.1.0; shown = tail_Rows h.value h.end h.shown; room = omega (arith, h.room) }, omega (arith, z, h.shown.shown.0.value, h.shown.fact))

    -- after j bytes of constants
    pub flags_room : (at : ℕ → ℕ) (j : ℕ) (l ys : List ℕ) → Wrote (Rows (ShowsConstant s) m (p + 2)) (constants_with at u) l j ys → (p + (2 + j) + 1 ≤ length s) × (2 + j + 1 ≤ n)
    unfolding tail_size
    flags_room at j l ys w =
        let t = h.value in
        let k = h.shown.shown.1 in
        let x = (w.each t.constants k.0 (tail_Rows t h.end h.shown)).0 ∙ length_constants at u t.constants in
        let e = sizes.run_end (ShowsConstant s) constant_size (sizes.constant_end s) (p + 2) t.constants k.0 k.1 in
        (omega (arith, x, e, k.2.inside), omega (arith, x, h.room))

  pub tail_Wrote : (at : ℕ → ℕ) (j i : ℕ) (l l₁ y₂ l₂ y₃ : List ℕ) → l₁ ≡ sets l 0 (bytes_of 2 m)
      → Wrote (Rows (ShowsConstant s) m (p + 2)) (constants_with at u) (rest l₁ 2) j y₂ → l₂ ≡ back l₁ 2 y₂
      → (i ≡ 1) × (y₃ ≡ sets (rest l₂ (2 + j)) 0 (part s (p + (2 + j)) (p + (2 + j) + 1)))
      → Wrote (Known (ShowsTail s) (TailFit u) p) (tail_with at u) l (2 + j + i) (back l₂ (2 + j) y₃)
  unfolding tail_with
  tail_Wrote at j i l l₁ y₂ l₂ y₃ e₁ w₂ e₂ a = record { each = go }
    where
      go : (t : Tail) (e : ℕ) → Known (ShowsTail s) (TailFit u) p t e → (2 + j + i ≡ length (tail_with at u t)) × (back l₂ (2 + j) y₃ ≡ sets l 0 (tail_with at u t))
      go t e h =
          let ks = t.constants in
          let k = h.shown.1 in
          let b = w₂.each ks k.0 (tail_Rows t e h) in
          let head = bytes_of 2 (length ks) in
          let x : p + (2 + j) ≡ k.0 = omega (arith, b.0, length_constants at u ks, sizes.run_end (ShowsConstant s) constant_size (sizes.constant_end s) (p + 2) ks k.0 k.1) in
          let flags : part s (p + (2 + j)) (p + (2 + j) + 1) ≡ t.flags ∷ [] = one_byte s (p + (2 + j)) t.flags (rw x k.2) in
          let s₁ : l₁ ≡ sets l 0 head = e₁ ∙ ap (λ (v : ℕ). sets l 0 (bytes_of 2 v)) (z ∙ h.shown.0.value) in
          let s₂ : l₂ ≡ sets l 0 (head ++ constants_with at u ks) = e₂ ∙ lent_after l l₁ y₂ head (constants_with at u ks) 2 s₁ (sym (length_bytes 2 (length ks))) b.1 in
          let long : 2 + j ≡ length (head ++ constants_with at u ks) = omega (arith, b.0, length_bytes 2 (length ks), length-append head (constants_with at u ks)) in (
            omega (arith, a.0, long, length-append (head ++ constants_with at u ks) (t.flags ∷ [])),
            lent_after l l₂ y₃ (head ++ constants_with at u ks) (t.flags ∷ []) (2 + j) s₂ long (a.1 ∙ ap (sets (rest l₂ (2 + j)) 0) flags),
          )

-- the count
pub tail_front : {s : List ℕ} {p n : ℕ} {Q : Tail → Type 0} → Room (Known (ShowsTail s) Q p) tail_size n → p + 2 ≤ length s
tail_front h = h.shown.shown.0.inside

pub length_tail : (at : ℕ → ℕ) (u : ℕ) (t : Tail) → length (tail_with at u t) ≡ tail_size t
unfolding tail_with tail_size
length_tail at u t = simp length-append (omega (arith, length_bytes 2 (length t.constants), length_constants at u t.constants))

-- ---- whole descriptors

pub descriptor_front : {s : List ℕ} {p n : ℕ} {Q : Descriptor ℕ → Type 0} → Room (Known (ShowsDescriptor s) Q p) descriptor_size n → 4 ≤ n
unfolding descriptor_size
descriptor_front {s} {p} {n} h = go h.value h.room
  where
    go : (d : Descriptor ℕ) → descriptor_size d ≤ n → 4 ≤ n
    go (descriptor up ms ks f) a = omega arith

names_count : (up : Option ℕ) (ms : List (Method ℕ)) (ks : List Constant) (f : ℕ) → length (names_of (descriptor up ms ks f)) ≡ length ms + length ks
unfolding names_of
names_count up ms ks f = simp (length-append, length-map)

regroup : (x₀ x₁ x₂ x₃ : List ℕ) → x₀ ++ (x₁ ++ x₂ ++ x₃) ≡ x₀ ++ x₁ ++ x₂ ++ x₃
regroup x₀ x₁ x₂ x₃ = simp append_assoc

parent_is : (place : List ℕ) (shift x r : ℕ) (up : Option ℕ) → x ≡ renumber_parent place shift r → r ≡ parent_index up → ParentRefs (InTable shift) up → x ≡ parent_number (renumber place shift) up
unfolding renumber_parent parent_index parent_number
parent_is place shift x r none e z a = e ∙ sym (is_eq r 0 0 (renumber place shift r) z refl)
parent_is place shift x r (some i) e z a = e ∙ sym (no_eq r 0 0 (renumber place shift r) (λ y. omega arith) refl) ∙ ap (renumber place shift) z

module _ (s : List ℕ) (shift u p : ℕ) where
  pub parent_Known : {n r : ℕ} → Tells (ShowsDescriptor s p) (λ (d : Descriptor ℕ). parent_index (parent_of d)) r → Room (Known (ShowsDescriptor s) (DescriptorFit shift u) p) descriptor_size n → (r ≡ 0) ⊎ InTable shift r
  unfolding parent_of parent_index
  parent_Known {n} {r} t h = go h.value h.end h.shown
    where
      go : (d : Descriptor ℕ) (e : ℕ) → Known (ShowsDescriptor s) (DescriptorFit shift u) p d e → (r ≡ 0) ⊎ InTable shift r
      go (descriptor none ms ks f) e k = inl (t.each (descriptor none ms ks f) e k.shown)
      go (descriptor (some i) ms ks f) e k = inr (rw (t.each (descriptor (some i) ms ks f) e k.shown) k.fact.1.0)

  module _ (c : ℕ) (z : c ≡ be 2 s (p + 2)) where
    abbrev MethodsAt : List (Method ℕ) → ℕ → Type 0
    MethodsAt = Rows (Known (ShowsMethod s) (MethodFit shift)) c (p + 4)

    method_rows : (up : Option ℕ) (ms : List (Method ℕ)) (ks : List Constant) (f e : ℕ) (k : Known (ShowsDescriptor s) (DescriptorFit shift u) p (descriptor up ms ks f) e) → MethodsAt ms k.shown.2.0
    method_rows up ms ks f e k = Rows-Known (ShowsMethod s) (MethodFit shift) c (p + 4) ms k.shown.2.0 (z ∙ k.shown.1.value) k.shown.2.1 k.fact.1.1

    -- the uses of its constants follow those of its c methods
    tail_Known : (up : Option ℕ) (ms : List (Method ℕ)) (ks : List Constant) (f e r : ℕ) (k : Known (ShowsDescriptor s) (DescriptorFit shift u) p (descriptor up ms ks f) e) → r ≡ k.shown.2.0
        → Known (ShowsTail s) (TailFit (u + c)) r (record { constants = ks; flags = f }) e
    tail_Known up ms ks f e r k y = record { shown = rw y (k.shown.2.2, k.shown.2.3); fact = omega (arith, z, k.shown.1.value, names_count up ms ks f, k.fact.0) }

    -- j bytes of methods, and where they end
    methods_bytes_lem : (f at : ℕ → ℕ) (j : ℕ) (l ys : List ℕ) → Wrote MethodsAt (methods_with f at u) l j ys → (up : Option ℕ) (ms : List (Method ℕ)) (ks : List Constant) (g e : ℕ) (k : Known (ShowsDescriptor s) (DescriptorFit shift u) p (descriptor up ms ks g) e)
        → (j ≡ sum method_size ms) × (p + (4 + j) ≡ k.shown.2.0)
    methods_bytes_lem f at j l ys w up ms ks g e k =
        let x : j ≡ sum method_size ms = (w.each ms k.shown.2.0 (method_rows up ms ks g e k)).0 ∙ length_methods f at u ms in
        (x, omega (arith, x, sizes.run_end (ShowsMethod s) method_size (sizes.method_end_lem s) (p + 4) ms k.shown.2.0 k.shown.2.1))

    module _ (n : ℕ) (h : Room (Known (ShowsDescriptor s) (DescriptorFit shift u) p) descriptor_size n) where
      pub methods_Room : (4 ≤ n) × Room MethodsAt (sum method_size) (n - 4) × (u + c ≤ use_limit)
      unfolding descriptor_size
      methods_Room = go h.value h.end h.shown h.room
        where
          go : (d : Descriptor ℕ) (e : ℕ) → Known (ShowsDescriptor s) (DescriptorFit shift u) p d e → descriptor_size d ≤ n → (4 ≤ n) × Room MethodsAt (sum method_size) (n - 4) × (u + c ≤ use_limit)
          go (descriptor up ms ks f) e k a = (omega arith, record { value = ms; end = k.shown.2.0; shown = method_rows up ms ks f e k; room = omega arith }, omega (arith, z, k.shown.1.value, names_count up ms ks f, k.fact.0))

      pub tail_Room : (f at : ℕ → ℕ) (j : ℕ) (l ys : List ℕ) → Wrote (Rows (Known (ShowsMethod s) (MethodFit shift)) c (p + 4)) (methods_with f at u) l j ys
          → (4 + j ≤ n) × Room (Known (ShowsTail s) (TailFit (u + c)) (p + (4 + j))) tail_size (n - (4 + j))
      unfolding descriptor_size tail_size
      tail_Room f at j l ys w = go h.value h.end h.shown h.room
        where
          go : (d : Descriptor ℕ) (e : ℕ) → Known (ShowsDescriptor s) (DescriptorFit shift u) p d e → descriptor_size d ≤ n → (4 + j ≤ n) × Room (Known (ShowsTail s) (TailFit (u + c)) (p + (4 + j))) tail_size (n - (4 + j))
          go (descriptor up ms ks g) e k a =
              let x = methods_bytes_lem f at j l ys w up ms ks g e k in
              (omega (arith, x.0), record { value = record { constants = ks; flags = g }; end = e; shown = tail_Known up ms ks g e (p + (4 + j)) k x.1; room = omega (arith, x.0) })

    pub descriptor_Wrote : (place : List ℕ) (at : ℕ → ℕ) (x r j i : ℕ) (l l₁ l₂ y₃ l₃ y₄ : List ℕ)
        → Tells (ShowsDescriptor s p) (λ (d : Descriptor ℕ). parent_index (parent_of d)) r → x ≡ renumber_parent place shift r
        → l₁ ≡ sets l 0 (bytes_of 2 x) → l₂ ≡ sets l₁ 2 (bytes_of 2 c)
        → Wrote (Rows (Known (ShowsMethod s) (MethodFit shift)) c (p + 4)) (methods_with (renumber place shift) at u) (rest l₂ 4) j y₃ → l₃ ≡ back l₂ 4 y₃
        → Wrote (Known (ShowsTail s) (TailFit (u + c)) (p + (4 + j))) (tail_with at (u + c)) (rest l₃ (4 + j)) i y₄
        → Wrote (Known (ShowsDescriptor s) (DescriptorFit shift u) p) (descriptor_with (renumber place shift) at u) l (4 + j + i) (back l₃ (4 + j) y₄)
    unfolding descriptor_with tail_with parent_of
    descriptor_Wrote place at x r j i l l₁ l₂ y₃ l₃ y₄ parent e₀ e₁ e₂ w₃ e₃ w₄ = record { each = go }
      where
        go : (d : Descriptor ℕ) (e : ℕ) → Known (ShowsDescriptor s) (DescriptorFit shift u) p d e → (4 + j + i ≡ length (descriptor_with (renumber place shift) at u d)) × (back l₃ (4 + j) y₄ ≡ sets l 0 (descriptor_with (renumber place shift) at u d))
        go (descriptor up ms ks g) e k =
            let f = renumber place shift in
            let y = methods_bytes_lem f at j (rest l₂ 4) y₃ w₃ up ms ks g e k in
            let m = w₃.each ms k.shown.2.0 (method_rows up ms ks g e k) in
            let b = w₄.each (record { constants = ks; flags = g }) e (tail_Known up ms ks g e (p + (4 + j)) k y.1) in
            let parent₁ : x ≡ parent_number f up = parent_is place shift x r up e₀ (parent.each (descriptor up ms ks g) e k.shown) k.fact.1.0 in
            let v : c ≡ length ms = z ∙ k.shown.1.value in
            let A = bytes_of 2 (parent_number f up) in
            let B = bytes_of 2 (length ms) in
            let M = methods_with f at u ms in
            let C = bytes_of 2 (length ks) in
            let s₁ : l₁ ≡ sets l 0 A = e₁ ∙ ap (λ (n : ℕ). sets l 0 (bytes_of 2 n)) parent₁ in
            let s₂ : l₂ ≡ sets l 0 (A ++ B) = chain l A B 0 2 s₁ (omega (arith, length_bytes 2 (parent_number f up))) (e₂ ∙ ap (λ (n : ℕ). sets l₁ 2 (bytes_of 2 n)) v) in
            let four : 4 ≡ length (A ++ B) = omega (arith, length-append A B, length_bytes 2 (parent_number f up), length_bytes 2 (length ms)) in
            let s₃ : l₃ ≡ sets l 0 (A ++ B ++ M) = e₃ ∙ lent_after l l₂ y₃ (A ++ B) M 4 s₂ four m.1 in
            let long : 4 + j ≡ length (A ++ B ++ M) = omega (arith, four, m.0, length-append (A ++ B) M) in
            let T = C ++ constants_with at (u + c) ks ++ (g ∷ []) in
            let same : A ++ B ++ M ++ T ≡ A ++ B ++ M ++ C ++ constants_with at (u + length ms) ks ++ (g ∷ []) =
            ap (λ (n : ℕ). A ++ B ++ M ++ (C ++ constants_with at (u + n) ks ++ (g ∷ []))) v ∙ regroup (A ++ B ++ M) C (constants_with at (u + length ms) ks) (g ∷ []) in
            let s₄ = lent_after l l₃ y₄ (A ++ B ++ M) T (4 + j) s₃ long b.1 in
            let all : 4 + j + i ≡ length (A ++ B ++ M ++ T) = omega (arith, long, b.0, length-append (A ++ B ++ M) T) in
            (all ∙ ap length same, s₄ ∙ ap (sets l 0) same)
