-- Methods and constants: their room, and their bytes.
-- Assumes nothing.
use mathlib.Core.Path.{◌≡◌, refl, sym, ap, ◌∙◌}
use mathlib.Core.List.{List, [], ◌∷◌, ◌++◌, append_assoc}
use Prim.Native.Nat.{ℕ, ◌+◌, ◌-◌, ◌≤◌}
use native.Mathlib.Omega.{arith}
use lib.ListN.{length, length-append}
use lib.Seq.{sets}
use Rattle.number.specs.Number.{be}
use Rattle.number.specs.Part.{part}
use Rattle.reader.specs.Values.{Param, Method, method, signature, argument_count, Constant, constant}
use Rattle.reader.specs.Records.{Bytes, ShowsParam, ShowsMethod, ShowsConstant}
use Rattle.reader.specs.Layout.{Ends, Tells, Rows}
use Rattle.meaning.specs.Refs.{ParamRefs}
use Rattle.meaning.specs.Normal.BigEndian.{bytes_of}
use Rattle.meaning.specs.Normal.Size.{sum, param_size, method_size, value_width, constant_size}
use Rattle.meaning.specs.Normal.Record.{run, param_bytes, method_bytes, constant_bytes}
use Rattle.meaning.specs.Stock.Form.{run_from, methods_with, constants_with}
use Rattle.meaning.proofs.Normal.Lengths.{length_bytes, length-run, length_param, length_method, length_constant}
use Rattle.meaning.proofs.Normal.Numbers.{Bytes-read}
use Rattle.writing.specs.Source.{Known, MethodFit, InTable}
use Rattle.writing.specs.Wrote.{Room, Wrote}
use Rattle.decimal.proofs.Stores.{chain}
use Rattle.writing.proofs.Copies.{one_byte, more_bytes}
use Rattle.writing.proofs.Lent.{rest, back, lent_after}
use Rattle.writing.proofs.Sources.{Rows-Known}
use Rattle.writing.proofs.Sizes as sizes
use Rattle.writing.proofs.Turns.{Writes}

-- ---- methods

module _ (s : List ℕ) (shift p : ℕ) where
  abbrev ParamAt : ℕ → Param ℕ → ℕ → Type 0
  ParamAt = Known (ShowsParam s) (ParamRefs (InTable shift))

  -- its arguments and its result, where it has c arguments
  record Inside (c : ℕ) (ps : List (Param ℕ)) (r : Param ℕ) (e : ℕ) : Type 0 where
    pub arguments : Rows ParamAt c (p + 6) ps (p + 6 + sum param_size ps)
    pub result : ParamAt (p + 6 + sum param_size ps) r e

  inside : (c g : ℕ) (w : List ℕ) (ps : List (Param ℕ)) (r : Param ℕ) (e : ℕ) → Tells (ShowsMethod s p) argument_count c → Known (ShowsMethod s) (MethodFit shift) p (method g w (signature ps r)) e → Inside c ps r e
  unfolding argument_count
  inside c g w ps r e t h =
      let k = h.shown.3 in
      let z = sizes.run_end (ShowsParam s) param_size (sizes.param_end s) (p + 6) ps k.0 k.1 in
      record {
        arguments = rw (← z) (Rows-Known (ShowsParam s) (ParamRefs (InTable shift)) c (p + 6) ps k.0 (t.each (method g w (signature ps r)) e h.shown) k.1 h.fact.0);
        result = rw (← z) (record { shown = k.2; fact = h.fact.1 });
      }

  module _ (n : ℕ) (h : Room (Known (ShowsMethod s) (MethodFit shift) p) method_size n) where
    -- flags, name pointer and argument count
    pub method_front : (p + 6 ≤ length s) × (6 ≤ n)
    unfolding method_size
    method_front = go h.value h.end h.shown.shown h.room
      where
        go : (m : Method ℕ) (e : ℕ) → ShowsMethod s p m e → method_size m ≤ n → (p + 6 ≤ length s) × (6 ≤ n)
        go (method g w (signature ps r)) e k a = (omega (arith, k.2.inside), omega arith)

    module _ (c : ℕ) (t : Tells (ShowsMethod s p) argument_count c) where
      pub arguments_Room : Room (Rows ParamAt c (p + 6)) (sum param_size) (n - 6)
      unfolding method_size
      arguments_Room = go h.value h.end h.shown h.room
        where
          go : (m : Method ℕ) (e : ℕ) → Known (ShowsMethod s) (MethodFit shift) p m e → method_size m ≤ n → Room (Rows ParamAt c (p + 6)) (sum param_size) (n - 6)
          go (method g w (signature ps r)) e k a = record { value = ps; end = p + 6 + sum param_size ps; shown = (inside c g w ps r e t k).arguments; room = omega arith }

      -- after j bytes of arguments
      pub result_Room : (f : ℕ → ℕ) (l ys : List ℕ) (j : ℕ) → Wrote (Rows ParamAt c (p + 6)) (run (param_bytes f)) l j ys → (6 + j ≤ n) × Room (ParamAt (p + (6 + j))) param_size (n - (6 + j))
      unfolding method_size
      result_Room f l ys j b = go h.value h.end h.shown h.room
        where
          go : (m : Method ℕ) (e : ℕ) → Known (ShowsMethod s) (MethodFit shift) p m e → method_size m ≤ n → (6 + j ≤ n) × Room (ParamAt (p + (6 + j))) param_size (n - (6 + j))
          go (method g w (signature ps r)) e k a =
              let i = inside c g w ps r e t k in
              let z : j ≡ sum param_size ps = (b.each ps _ i.arguments).0 ∙ length-run (param_bytes f) param_size (length_param f) ps in
              let x : p + (6 + j) ≡ p + 6 + sum param_size ps = omega arith in
              (omega arith, record { value = r; end = e; shown = rw x i.result; room = omega arith })

  pub method_Wrote : (f : ℕ → ℕ) (q c j i : ℕ) (l l₁ l₂ l₃ y₄ l₄ y₅ : List ℕ) → Tells (ShowsMethod s p) argument_count c
      → l₁ ≡ sets l 0 (part s p (p + 1)) → l₂ ≡ sets l₁ 1 (bytes_of 4 q) → l₃ ≡ sets l₂ 5 (part s (p + 5) (p + 5 + 1))
      → Wrote (Rows ParamAt c (p + 6)) (run (param_bytes f)) (rest l₃ 6) j y₄ → l₄ ≡ back l₃ 6 y₄
      → Wrote (ParamAt (p + (6 + j))) (param_bytes f) (rest l₄ (6 + j)) i y₅
      → Wrote (Known (ShowsMethod s) (MethodFit shift) p) (method_bytes f q) l (6 + j + i) (back l₄ (6 + j) y₅)
  unfolding method_bytes
  method_Wrote f q c j i l l₁ l₂ l₃ y₄ l₄ y₅ t e₁ e₂ e₃ w₄ e₄ w₅ = record { each = go }
    where
      go : (m : Method ℕ) (e : ℕ) → Known (ShowsMethod s) (MethodFit shift) p m e → (6 + j + i ≡ length (method_bytes f q m)) × (back l₄ (6 + j) y₅ ≡ sets l 0 (method_bytes f q m))
      go (method g w (signature ps r)) e k =
          let n = inside c g w ps r e t k in
          let a = w₄.each ps _ n.arguments in
          let z : j ≡ sum param_size ps = a.0 ∙ length-run (param_bytes f) param_size (length_param f) ps in
          let x : p + (6 + j) ≡ p + 6 + sum param_size ps = omega arith in
          let b = w₅.each r e (rw x n.result) in
          let front = (g ∷ []) ++ bytes_of 4 q in
          let head = front ++ (length ps ∷ []) in
          let lf : length front ≡ 5 = omega (arith, length-append (g ∷ []) (bytes_of 4 q), length_bytes 4 q) in
          let lh : length head ≡ 6 = omega (arith, length-append front (length ps ∷ [])) in
          let la : length (head ++ run (param_bytes f) ps) ≡ 6 + j = omega (arith, length-append head (run (param_bytes f) ps), a.0) in
          let s₁ : l₁ ≡ sets l 0 (g ∷ []) = e₁ ∙ ap (sets l 0) (one_byte s p g k.shown.0) in
          let s₂ : l₂ ≡ sets l 0 front = chain l (g ∷ []) (bytes_of 4 q) 0 1 s₁ (omega arith) e₂ in
          let s₃ : l₃ ≡ sets l 0 head = chain l front (length ps ∷ []) 0 5 s₂ (omega arith) (e₃ ∙ ap (sets l₂ 5) (one_byte s (p + 5) (length ps) k.shown.2)) in
          let s₄ : l₄ ≡ sets l 0 (head ++ run (param_bytes f) ps) = e₄ ∙ lent_after l l₃ y₄ head (run (param_bytes f) ps) 6 s₃ (sym lh) a.1 in
          (omega (arith, length-append (head ++ run (param_bytes f) ps) (param_bytes f r), b.0), lent_after l l₄ y₅ (head ++ run (param_bytes f) ps) (param_bytes f r) (6 + j) s₄ (sym la) b.1)

pub methods_how : (s : List ℕ) (shift : ℕ) (f at : ℕ → ℕ) → Writes (Known (ShowsMethod s) (MethodFit shift)) (λ (u : ℕ). method_bytes f (at u)) (methods_with f at) method_size
unfolding methods_with run_from
methods_how s shift f at = record { none = λ u. refl; more = λ u m ms. refl; long = λ u m. length_method f (at u) m; ended = λ p m e h. sizes.method_end_lem s p m e h.shown }

-- ---- constants

pub constant_front : (s : List ℕ) (p n : ℕ) → Room (ShowsConstant s p) constant_size n → (p + 5 ≤ length s) × (5 ≤ n)
unfolding constant_size
constant_front s p n h = go h.value h.end h.shown h.room
  where
    go : (c : Constant) (e : ℕ) → ShowsConstant s p c e → constant_size c ≤ n → (p + 5 ≤ length s) × (5 ≤ n)
    go (constant w k v) e h a = (omega (arith, h.1.inside), omega arith)

module _ (s : List ℕ) (p r : ℕ) (d : Ends (ShowsConstant s p) (p + 5 + r)) where
  pub constant_Room : (n : ℕ) → Room (ShowsConstant s p) constant_size n → (p + 4 + (1 + r) ≤ length s) × (4 + (1 + r) ≤ n)
  unfolding constant_size
  constant_Room n h = go h.value h.end h.shown h.room
    where
      go : (c : Constant) (e : ℕ) → ShowsConstant s p c e → constant_size c ≤ n → (p + 4 + (1 + r) ≤ length s) × (4 + (1 + r) ≤ n)
      go (constant w k v) e h a =
          let z : h.2.0 ≡ r = omega (arith, d.each (constant w k v) e h, h.2.3) in
          (omega (arith, z, h.2.2.inside), omega (arith, z, sizes.Stored-width k h.2.0 h.2.1))

  -- the type byte and the value are copied
  pub constant_Wrote : Bytes s → (q m : ℕ) (l l₁ ys : List ℕ) → l₁ ≡ sets l 0 (bytes_of 4 q) → (m ≡ 1 + r) × (ys ≡ sets (rest l₁ 4) 0 (part s (p + 4) (p + 4 + (1 + r))))
      → Wrote (ShowsConstant s p) (constant_bytes q) l (4 + m) (back l₁ 4 ys)
  unfolding constant_bytes
  constant_Wrote small q m l l₁ ys e₁ a = record { each = go }
    where
      go : (c : Constant) (e : ℕ) → ShowsConstant s p c e → (4 + m ≡ length (constant_bytes q c)) × (back l₁ 4 ys ≡ sets l 0 (constant_bytes q c))
      go (constant w k v) e h =
          let z : r ≡ h.2.0 = omega (arith, d.each (constant w k v) e h, h.2.3) in
          let x = z ∙ sizes.Stored-width k h.2.0 h.2.1 in
          let i : p + 5 + r ≤ length s = omega (arith, z, h.2.2.inside) in
          let five : p + 4 + 1 ≡ p + 5 = omega arith in
          let v₁ : be r s (p + 5) ≡ v = ap (λ (j : ℕ). be j s (p + 5)) z ∙ h.2.2.value in
          let value : part s (p + 5) (p + 5 + r) ≡ bytes_of (value_width k) v = sym (Bytes-read s small r (p + 5) i) ∙ (λ j. bytes_of (x j) (v₁ j)) in
          let bytes : part s (p + 4) (p + 4 + (1 + r)) ≡ k ∷ bytes_of (value_width k) v =
          more_bytes s (p + 4) k r h.1 (omega arith) ∙ ap (λ (j : ℕ). k ∷ part s j (j + r)) five ∙ ap (λ (b : List ℕ). k ∷ b) value in
          let whole : bytes_of 4 q ++ (k ∷ bytes_of (value_width k) v) ≡ bytes_of 4 q ++ (k ∷ []) ++ bytes_of (value_width k) v = sym (append_assoc (bytes_of 4 q) (k ∷ []) (bytes_of (value_width k) v)) in
          let long : length (bytes_of 4 q ++ (k ∷ bytes_of (value_width k) v)) ≡ 4 + m = omega (arith, length-append (bytes_of 4 q) (k ∷ bytes_of (value_width k) v), length_bytes 4 q, length_bytes (value_width k) v, x, a.0) in
          (sym long ∙ ap length whole, lent_after l l₁ ys (bytes_of 4 q) (k ∷ bytes_of (value_width k) v) 4 e₁ (sym (length_bytes 4 q)) (a.1 ∙ ap (sets (rest l₁ 4) 0) bytes) ∙ ap (sets l 0) whole)

pub constants_how : (s : List ℕ) (at : ℕ → ℕ) → Writes (ShowsConstant s) (λ (u : ℕ). constant_bytes (at u)) (constants_with at) constant_size
unfolding constants_with run_from
constants_how s at = record { none = λ u. refl; more = λ u c cs. refl; long = λ u c. length_constant (at u) c; ended = sizes.constant_end s }
