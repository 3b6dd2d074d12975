-- Types and parameters: their room, and their bytes.
-- Assumes nothing.
use mathlib.Core.Path.{◌≡◌, refl, ap, ◌∙◌}
use mathlib.Core.List.{List, [], ◌∷◌, ◌++◌}
use Prim.Native.Nat.{ℕ, ◌+◌, ◌-◌, ◌≤◌}
use native.Mathlib.Omega.{arith}
use lib.ListN.{length, get_or, length-append}
use lib.Seq.{sets}
use Rattle.number.specs.Number.{be}
use Rattle.number.specs.Part.{part}
use Rattle.number.proofs.Parts.{length-part}
use Rattle.reader.specs.Values.{Ty, simple, interface, interface_is, array, sized, Param, param}
use Rattle.reader.specs.Records.{ShowsType, ShowsParam}
use Rattle.reader.specs.declared.record.Form.{Form}
use Rattle.reader.specs.declared.record.Form.TheVariants.{Simple, Interface, InterfaceIs, Array, Sized}
use Rattle.reader.specs.Form.{type_form, form_of}
use Rattle.reader.proofs.Shown.{by_form, of_form}
use Rattle.meaning.specs.Refs.{TypeRefs, ParamRefs}
use Rattle.meaning.specs.Normal.BigEndian.{bytes_of}
use Rattle.meaning.specs.Normal.Size.{type_size, param_size}
use Rattle.meaning.specs.Normal.Record.{run, type_bytes, param_bytes}
use Rattle.meaning.proofs.Normal.Lengths.{length_bytes, length_param}
use Rattle.writing.specs.Source.{Known, InTable}
use Rattle.writing.specs.Wrote.{Room, Wrote}
use Rattle.writing.proofs.Copies.{one_byte, two_bytes, three_bytes}
use Rattle.writing.proofs.Lent.{rest, back, lent_after}
use Rattle.writing.proofs.Sizes as sizes
use Rattle.writing.proofs.Turns.{Writes}

module _ (s : List ℕ) (shift p n : ℕ) (h : Room (Known (ShowsType s) (TypeRefs (InTable shift)) p) type_size n) where
  -- every type has its prefix
  pub prefix_room : (p + 1 ≤ length s) × (1 ≤ n)
  unfolding type_size
  prefix_room = go h.value h.end h.shown.shown h.room
    where
      go : (t : Ty ℕ) (e : ℕ) → ShowsType s p t e → type_size t ≤ n → (p + 1 ≤ length s) × (1 ≤ n)
      go (simple b) e k r = (omega (arith, k.0.inside), omega arith)
      go (interface b i) e k r = (omega (arith, k.0.inside), omega arith)
      go (interface_is b a) e k r = (omega (arith, k.0.inside), omega arith)
      go (array b x y t) e k r = (omega (arith, k.0.inside), omega arith)
      go (sized b x y) e k r = (omega (arith, k.0.inside), omega arith)

  -- and what its form says follows
  abbrev RoomAs : Form → Type 0
  RoomAs Simple = Unit {0}
  RoomAs Interface = (p + 3 ≤ length s) × (InTable shift (be 2 s (p + 1)) × (3 ≤ n))
  RoomAs InterfaceIs = (p + 2 ≤ length s) × (2 ≤ n)
  RoomAs Array = ((p + 3 ≤ length s) × (3 ≤ n)) × Room (Known (ShowsType s) (TypeRefs (InTable shift)) (p + 3)) type_size (n - 3)
  RoomAs Sized = (p + 3 ≤ length s) × (3 ≤ n)

  pub form_room : (f : Form) → form_of (get_or s p 0) ≡ f → RoomAs f
  unfolding type_size type_form
  form_room f z = by_form s p RoomAs f z h.value h.end h.shown.shown (go h.value h.end h.shown.shown h.shown.fact h.room)
    where
      go : (t : Ty ℕ) (e : ℕ) → ShowsType s p t e → TypeRefs (InTable shift) t → type_size t ≤ n → RoomAs (type_form t)
      go (simple b) e k a r = tt
      go (interface b i) e k a r = (omega (arith, k.2.inside), (rw k.2.value a, omega arith))
      go (interface_is b x) e k a r = (omega (arith, k.2.inside), omega arith)
      go (array b x y t) e k a r = ((omega (arith, k.3.inside), omega arith), record { value = t; end = e; shown = record { shown = k.4; fact = a }; room = omega arith })
      go (sized b x y) e k a r = (omega (arith, k.3.inside), omega arith)

module _ (s : List ℕ) (f : ℕ → ℕ) (shift p : ℕ) where
  -- by its form: the bytes as they are, an index renumbered, or three bytes and an element
  abbrev WroteAs : List ℕ → ℕ → List ℕ → Form → Type 0
  WroteAs l r l₁ Simple = (r ≡ 1) × (l₁ ≡ sets l 0 (part s p (p + 1)))
  WroteAs l r l₁ Interface = (r ≡ 3) × (l₁ ≡ sets l 0 (get_or s p 0 ∷ bytes_of 2 (f (be 2 s (p + 1)))))
  WroteAs l r l₁ InterfaceIs = (r ≡ 2) × (l₁ ≡ sets l 0 (part s p (p + 2)))
  WroteAs l r l₁ Array = Wrote (Known (ShowsType s) (TypeRefs (InTable shift)) (p + 3)) (λ (t : Ty ℕ). part s p (p + 3) ++ type_bytes f t) l r l₁
  WroteAs l r l₁ Sized = (r ≡ 3) × (l₁ ≡ sets l 0 (part s p (p + 3)))

  pub form_Wrote : (l : List ℕ) (r : ℕ) (l₁ : List ℕ) (c : Form) → form_of (get_or s p 0) ≡ c → WroteAs l r l₁ c
      → Wrote (Known (ShowsType s) (TypeRefs (InTable shift)) p) (type_bytes f) l r l₁
  unfolding type_bytes type_form
  form_Wrote l r l₁ c z w = record { each = λ t e k. go t e k.shown k.fact (of_form s p (WroteAs l r l₁) c z t e k.shown w) }
    where
      by : (n : ℕ) (vs ws : List ℕ) → (r ≡ n) × (l₁ ≡ sets l 0 vs) → vs ≡ ws → n ≡ length ws → (r ≡ length ws) × (l₁ ≡ sets l 0 ws)
      by n vs ws a e m = (a.0 ∙ m, a.1 ∙ ap (sets l 0) e)

      go : (t : Ty ℕ) (e : ℕ) → ShowsType s p t e → TypeRefs (InTable shift) t → WroteAs l r l₁ (type_form t) → (r ≡ length (type_bytes f t)) × (l₁ ≡ sets l 0 (type_bytes f t))
      go (simple b) e k a w = by 1 (part s p (p + 1)) (b ∷ []) w (one_byte s p b k.0) (omega arith)
      go (interface b i) e k a w = by 3 (get_or s p 0 ∷ bytes_of 2 (f (be 2 s (p + 1)))) (b ∷ bytes_of 2 (f i)) w (λ j. k.0.value j ∷ bytes_of 2 (f (k.2.value j))) (omega (arith, length_bytes 2 (f i)))
      go (interface_is b x) e k a w = by 2 (part s p (p + 2)) (b ∷ x ∷ []) w (two_bytes s p b x k.0 k.2) (omega arith)
      go (array b x y t) e k a w =
          let z = w.each t e (record { shown = k.4; fact = a }) in
          let q : part s p (p + 3) ++ type_bytes f t ≡ b ∷ x ∷ y ∷ type_bytes f t = ap (λ (v : List ℕ). v ++ type_bytes f t) (three_bytes s p b x y k.0 k.2 k.3) in
          (z.0 ∙ ap length q, z.1 ∙ ap (sets l 0) q)
      go (sized b x y) e k a w = by 3 (part s p (p + 3)) (b ∷ x ∷ y ∷ []) w (three_bytes s p b x y k.0 k.2 k.3) (omega arith)

  pub array_Wrote : (l l₁ : List ℕ) (n r : ℕ) (ys : List ℕ) → p + 3 ≤ length s → (n ≡ 3) × (l₁ ≡ sets l 0 (part s p (p + 3)))
      → Wrote (Known (ShowsType s) (TypeRefs (InTable shift)) (p + 3)) (type_bytes f) (rest l₁ n) r ys
      → Wrote (Known (ShowsType s) (TypeRefs (InTable shift)) (p + 3)) (λ (t : Ty ℕ). part s p (p + 3) ++ type_bytes f t) l (n + r) (back l₁ n ys)
  array_Wrote l l₁ n r ys m a w = record {
    each = λ t e k.
        let z = w.each t e k in
        let c = length-part s p (p + 3) m in
        (omega (arith, a.0, z.0, c, length-append (part s p (p + 3)) (type_bytes f t)), lent_after l l₁ ys (part s p (p + 3)) (type_bytes f t) n a.1 (omega (arith, a.0, c)) z.1);
  }

-- ---- parameters

module _ (s : List ℕ) (shift p : ℕ) where
  pub param_Room : (n : ℕ) → Room (Known (ShowsParam s) (ParamRefs (InTable shift)) p) param_size n
      → (p + 1 ≤ length s) × ((1 ≤ n) × Room (Known (ShowsType s) (TypeRefs (InTable shift)) (p + 1)) type_size (n - 1))
  unfolding param_size
  param_Room n h = go h.value h.end h.shown.shown h.shown.fact h.room
    where
      go : (x : Param ℕ) (e : ℕ) → ShowsParam s p x e → ParamRefs (InTable shift) x → param_size x ≤ n
          → (p + 1 ≤ length s) × ((1 ≤ n) × Room (Known (ShowsType s) (TypeRefs (InTable shift)) (p + 1)) type_size (n - 1))
      go (param g t) e k a r = (omega (arith, k.0.inside), (omega arith, record { value = t; end = e; shown = record { shown = k.1; fact = a }; room = omega arith }))

  pub param_Wrote : (f : ℕ → ℕ) (l l₁ : List ℕ) (n r : ℕ) (ys : List ℕ) → (n ≡ 1) × (l₁ ≡ sets l 0 (part s p (p + 1)))
      → Wrote (Known (ShowsType s) (TypeRefs (InTable shift)) (p + 1)) (type_bytes f) (rest l₁ n) r ys
      → Wrote (Known (ShowsParam s) (ParamRefs (InTable shift)) p) (param_bytes f) l (n + r) (back l₁ n ys)
  unfolding param_bytes
  param_Wrote f l l₁ n r ys a w = record { each = λ x e k. go x e k.shown k.fact }
    where
      go : (x : Param ℕ) (e : ℕ) → ShowsParam s p x e → ParamRefs (InTable shift) x → (n + r ≡ length (param_bytes f x)) × (back l₁ n ys ≡ sets l 0 (param_bytes f x))
      go (param g t) e k b =
          let z = w.each t e (record { shown = k.1; fact = b }) in
          (omega (arith, a.0, z.0), lent_after l l₁ ys (g ∷ []) (type_bytes f t) n (a.1 ∙ ap (sets l 0) (one_byte s p g k.0)) a.0 z.1)

-- how several are written
pub params_how : (s : List ℕ) (shift : ℕ) (f : ℕ → ℕ) → Writes (Known (ShowsParam s) (ParamRefs (InTable shift))) (λ (u : ℕ). param_bytes f) (λ (u : ℕ). run (param_bytes f)) param_size
unfolding run
params_how s shift f = record { none = λ u. refl; more = λ u x xs. refl; long = λ u x. length_param f x; ended = λ p x e h. sizes.param_end s p x e h.shown }
