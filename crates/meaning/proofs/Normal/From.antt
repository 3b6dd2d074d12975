-- A list s has certain bytes from a position on; what such bytes show.
-- Assumes nothing.
use mathlib.Core.Path.{◌≡◌, refl, sym, ap, ◌∙◌}
use mathlib.Core.List.{List, [], ◌∷◌, ◌++◌}
use Prim.Native.Nat.{ℕ, zero, suc, ◌+◌, ◌-◌, ◌*◌, ◌/◌, ◌%◌, ◌^◌, ◌≤◌, ◌<◌}
use native.Mathlib.Nat.{pow-suc}
use native.Mathlib.Omega.{arith}
use lib.ListN.{length, get_or, drop, length-append, length-drop, get_or-append}
use lib.Seq.{get_or-append-add, get_or-append_seam, get_or-drop, ext_get_or}
use Rattle.number.specs.Number.{be}
use Rattle.number.specs.Part.{part}
use Rattle.number.proofs.Parts.{length-part, get_or-part}
use Rattle.reader.specs.Records.{ShowsByte, ShowsField, ShowsWord}
use Rattle.meaning.specs.Normal.BigEndian.{bytes_of}
use Rattle.meaning.specs.Normal.Record.{name_bytes}
use Rattle.meaning.proofs.Normal.Lengths.{length_bytes}

-- from p on, s has the bytes t
pub record From (s : List ℕ) (p : ℕ) (t : List ℕ) : Type 0 where
  pub inside : p + length t ≤ length s
  pub same : (i : ℕ) → i < length t → get_or s (p + i) 0 ≡ get_or t i 0

-- ---- parts

pub From-whole : (s : List ℕ) → From s 0 s
From-whole s = record { inside = omega arith; same = λ i l. let e : 0 + i ≡ i = omega arith in ap (λ (j : ℕ). get_or s j 0) e }

module _ (s : List ℕ) where
  pub From-at : (p q : ℕ) (t : List ℕ) → p ≡ q → From s p t → From s q t
  From-at p q t e h = rw (← e) h

  pub From-left : (p : ℕ) (a b : List ℕ) → From s p (a ++ b) → From s p a
  From-left p a b h =
      let n = length-append a b in
      let k : p + length (a ++ b) ≤ length s = h.inside in
      record {
        inside = omega arith;
        same = λ i l. h.same i (omega arith) ∙ get_or-append a b 0 i l;
      }

  pub From-right : (p : ℕ) (a b : List ℕ) → From s p (a ++ b) → From s (p + length a) b
  From-right p a b h =
      let n = length-append a b in
      let k : p + length (a ++ b) ≤ length s = h.inside in
      record {
        inside = omega arith;
        same = λ i l.
            let e : p + length a + i ≡ p + (length a + i) = omega arith in
            ap (λ (j : ℕ). get_or s j 0) e ∙ h.same (length a + i) (omega arith) ∙ get_or-append-add a b i 0;
      }

  pub From-head : (p b : ℕ) (t : List ℕ) → From s p (b ∷ t) → ShowsByte s p b
  From-head p b t h =
      let k : p + length (b ∷ t) ≤ length s = h.inside in
      let e : p ≡ p + 0 = omega arith in
      record { inside = omega arith; value = ap (λ (j : ℕ). get_or s j 0) e ∙ h.same 0 (omega arith) }

  pub From-tail : (p b : ℕ) (t : List ℕ) → From s p (b ∷ t) → From s (p + 1) t
  From-tail p b t h = From-right p (b ∷ []) t h

  -- in the part of s from q on
  pub From-drop : (q p : ℕ) (t : List ℕ) → From s (q + p) t → q ≤ length s → From (drop q s) p t
  From-drop q p t h l =
      let k : q + p + length t ≤ length s = h.inside in
      record {
        inside = omega (arith, length-drop q s);
        same = λ i m.
            let e : q + (p + i) ≡ q + p + i = omega arith in
            get_or-drop q s (p + i) 0 ∙ ap (λ (j : ℕ). get_or s j 0) e ∙ h.same i m;
      }

-- bytes that stand in the middle of a list
pub From-middle : (a b c : List ℕ) → From (a ++ b ++ c) (length a) b
From-middle a b c =
    let whole = From-left (a ++ b ++ c) 0 (a ++ b) c (From-whole (a ++ b ++ c)) in
    let e : 0 + length a ≡ length a = omega arith in
    From-at (a ++ b ++ c) _ _ b e (From-right (a ++ b ++ c) 0 a b whole)

-- ---- numbers

-- a number is told by its bytes
pub be-From : (s : List ℕ) (p : ℕ) (t : List ℕ) → From s p t → (k : ℕ) → k ≤ length t → be k s p ≡ be k t 0
unfolding be
be-From s p t h zero l = refl
be-From s p t h (suc k) l =
    let e : 0 + k ≡ k = omega arith in
    let a : get_or s (p + k) 0 ≡ get_or t (0 + k) 0 = h.same k (omega arith) ∙ ap (λ (j : ℕ). get_or t j 0) (sym e) in
    let ih : be k s p ≡ be k t 0 = be-From s p t h k (omega arith) in
    (λ i. ih i * 256 + a i)

-- read back from the bytes themselves
be_bytes : (k v : ℕ) → v < 256 ^ k → be k (bytes_of k v) 0 ≡ v
unfolding be bytes_of
be_bytes zero v l = omega arith
be_bytes (suc k) v l =
    let ih : be k (bytes_of k (v / 256)) 0 ≡ v / 256 = be_bytes k (v / 256) (omega (arith, pow-suc 256 k)) in
    let t : List ℕ = bytes_of k (v / 256) ++ (v % 256 ∷ []) in
    let n : length (bytes_of k (v / 256)) ≡ k = length_bytes k (v / 256) in
    let f = From-left t 0 (bytes_of k (v / 256)) (v % 256 ∷ []) (From-whole t) in
    let a : be k t 0 ≡ v / 256 = be-From t 0 (bytes_of k (v / 256)) f k (omega arith) ∙ ih in
    let e : 0 + k ≡ length (bytes_of k (v / 256)) = omega arith in
    let b : get_or t (0 + k) 0 ≡ v % 256 = ap (λ (j : ℕ). get_or t j 0) e ∙ get_or-append_seam (bytes_of k (v / 256)) (v % 256) [] 0 in
    let c : v / 256 * 256 + v % 256 ≡ v = omega arith in
    (λ i. a i * 256 + b i) ∙ c

module _ (s : List ℕ) where
  pub From-number : (k p v : ℕ) → v < 256 ^ k → From s p (bytes_of k v) → be k s p ≡ v
  From-number k p v l h = be-From s p (bytes_of k v) h k (omega (arith, length_bytes k v)) ∙ be_bytes k v l

  pub From-field : (k p v : ℕ) → v < 256 ^ k → From s p (bytes_of k v) → ShowsField k s p v
  From-field k p v l h =
      let n : p + length (bytes_of k v) ≤ length s = h.inside in
      record { inside = omega (arith, length_bytes k v); value = From-number k p v l h }

-- the number of k bytes is the number they were written for, whatever stands before and after them
pub read_number : (k v : ℕ) (p q : List ℕ) → v < 256 ^ k → be k (p ++ bytes_of k v ++ q) (length p) ≡ v
read_number k v p q l = From-number (p ++ bytes_of k v ++ q) k (length p) v l (From-middle p (bytes_of k v) q)

-- ---- names

-- the bytes w and a zero byte, at p
pub From-word : (s : List ℕ) (q : ℕ) (w : List ℕ) → 1 ≤ q → From s (q - 1) (name_bytes w) → ShowsWord s q w
unfolding name_bytes
From-word s q w l h =
    let n = length-append w (0 ∷ []) in
    let k : q - 1 + length (w ++ (0 ∷ [])) ≤ length s = h.inside in
    let a = From-left s (q - 1) w (0 ∷ []) h in
    let b = From-head s (q - 1 + length w) 0 [] (From-right s (q - 1) w (0 ∷ []) h) in
    let m : length (part s (q - 1) (q - 1 + length w)) ≡ length w = length-part s (q - 1) (q - 1 + length w) (omega arith) ∙ omega arith in
    record {
      from = l;
      inside = omega arith;
      bytes = ext_get_or 0 _ w m (λ i j. get_or-part s (q - 1) (q - 1 + length w) i (omega arith) ∙ a.same i (omega arith));
      closed = b.value;
    }
