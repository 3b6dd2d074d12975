-- The bytes of a record show it.
-- Assumes nothing.
use mathlib.Core.Path.{◌≡◌, refl}
use mathlib.Core.List.{List, [], ◌∷◌, ◌++◌, append_assoc}
use Prim.Native.Nat.{ℕ, ◌+◌, ◌-◌, ◌≤◌}
use native.Mathlib.Omega.{arith}
use lib.ListN.{length}
use Rattle.reader.specs.Values.{Ty, simple, interface, interface_is, array, sized, Param, param, param_type, Method, method, signature, method_name}
use Rattle.reader.specs.Records.{Run, ShowsName, ShowsType, ShowsParam, ShowsMethod}
use Rattle.reader.specs.Rules.{All, TypeRule, ArgumentRule, MethodRule}
use Rattle.meaning.proofs.Alls.{All-both}
use Rattle.meaning.proofs.Maps.{itself}
use Rattle.meaning.specs.Normal.BigEndian.{bytes_of}
use Rattle.meaning.specs.Normal.Size.{sum, type_size, param_size, method_size, name_size, method_name_size}
use Rattle.meaning.specs.Normal.Record.{run, type_bytes, param_bytes, method_bytes, name_after, methods_bytes, name_bytes, method_name_bytes}
use Rattle.meaning.specs.Normal.Ranged.{RangedType, RangedParam, RangedMethod}
use Rattle.meaning.proofs.Normal.Lengths.{length_bytes, length-run, length_param, length_method, length_method_name}
use Rattle.meaning.proofs.Normal.From.{From, From-at, From-left, From-right, From-head, From-tail, From-field, From-word}

-- the next name lies in the pool too, right after a name and its zero byte
pub after_name : (q : ℕ) (w : List ℕ) → 1 ≤ q → (1 ≤ name_after q w) × (q - 1 + name_size w ≡ name_after q w - 1)
unfolding name_after
after_name q w l = (omega arith, omega arith)

-- what is asked of a parameter and of a method of a directory of n entries
abbrev GoodParam : ℕ → ℕ → Param ℕ → Type 0
GoodParam minor n x = RangedParam x × TypeRule minor n (param_type x)

abbrev pub GoodMethod : ℕ → ℕ → Method ℕ → Type 0
GoodMethod minor n m = RangedMethod m × MethodRule minor n m

module _ (s : List ℕ) where
  -- bytes of known length, and what follows them
  pub From-split : (p k : ℕ) (a b : List ℕ) → length a ≡ k → From s p (a ++ b) → From s p a × From s (p + k) b
  From-split p k a b e h = (From-left s p a b h, rw e at (From-right s p a b h))

  -- a pointer q at p to a name at q
  pub name_shows : length s ≤ 1048576 → (p q : ℕ) (w : List ℕ) → 1 ≤ q → From s p (bytes_of 4 q) → From s (q - 1) (name_bytes w) → ShowsName s p w
  name_shows small p q w l h k =
      let m : q - 1 + length (name_bytes w) ≤ length s = k.inside in
      record { pointer = q; field = From-field s 4 p q (omega arith) h; word = From-word s q w l k }

  run_shows : {X : Type 0} (P : ℕ → X → ℕ → Type 0) (W : X → Type 0) (bytes : X → List ℕ) (size : X → ℕ) → ((x : X) → length (bytes x) ≡ size x)
      → ((x : X) (p e : ℕ) → W x → e ≡ p + size x → From s p (bytes x) → P p x e)
      → (xs : List X) (p e : ℕ) → All W xs → e ≡ p + sum size xs → From s p (run bytes xs) → Run P p xs e
  unfolding run sum
  run_shows P W bytes size long one [] p e a q h = omega arith
  run_shows P W bytes size long one (x ∷ xs) p e a q h =
      let z = From-split p (size x) (bytes x) (run bytes xs) (long x) h in
      (p + size x, one x p (p + size x) a.0 refl z.0, run_shows P W bytes size long one xs (p + size x) e a.1 (omega arith) z.1)

  -- ---- types and parameters

  module _ (minor n : ℕ) (few : n ≤ 1024) where
    type_shows : (t : Ty ℕ) (p e : ℕ) → RangedType t → TypeRule minor n t → e ≡ p + type_size t → From s p (type_bytes itself t) → ShowsType s p t e
    unfolding type_bytes type_size
    type_shows (simple b) p e r k q h = (From-head s p b [] h, r.1, q)
    type_shows (interface b i) p e r k q h =
        (From-head s p b (bytes_of 2 i) h, r.1, From-field s 2 (p + 1) i (omega (arith, k.1.1)) (From-tail s p b (bytes_of 2 i) h), q)
    type_shows (interface_is b a) p e r k q h = (From-head s p b (a ∷ []) h, r.1, From-head s (p + 1) a [] (From-tail s p b (a ∷ []) h), q)
    type_shows (array b x y t) p e r k q h =
        let u : List ℕ = type_bytes itself t in
        let h1 = From-tail s p b (x ∷ y ∷ u) h in
        let h2 = From-at s (p + 1 + 1) (p + 2) (y ∷ u) (omega arith) (From-tail s (p + 1) x (y ∷ u) h1) in
        let h3 = From-at s (p + 2 + 1) (p + 3) u (omega arith) (From-tail s (p + 2) y u h2) in
        (From-head s p b (x ∷ y ∷ u) h, r.1, From-head s (p + 1) x (y ∷ u) h1, From-head s (p + 2) y u h2, type_shows t (p + 3) e r.4 k.1 (omega arith) h3)
    type_shows (sized b x y) p e r k q h =
        let h1 = From-tail s p b (x ∷ y ∷ []) h in
        let h2 = From-at s (p + 1 + 1) (p + 2) (y ∷ []) (omega arith) (From-tail s (p + 1) x (y ∷ []) h1) in
        (From-head s p b (x ∷ y ∷ []) h, r.1, From-head s (p + 1) x (y ∷ []) h1, From-head s (p + 2) y [] h2, q)

    param_shows : (x : Param ℕ) (p e : ℕ) → GoodParam minor n x → e ≡ p + param_size x → From s p (param_bytes itself x) → ShowsParam s p x e
    unfolding param_bytes param_size param_type
    param_shows (param f t) p e w q h =
        (From-head s p f (type_bytes itself t) h, type_shows t (p + 1) e w.0.1 w.1 (omega arith) (From-tail s p f (type_bytes itself t) h))

    -- ---- methods

    module _ (small : length s ≤ 1048576) where
      pub method_shows : (m : Method ℕ) (q p e : ℕ) → GoodMethod minor n m → 1 ≤ q → e ≡ p + method_size m
          → From s p (method_bytes itself q m) → From s (q - 1) (method_name_bytes m) → ShowsMethod s p m e
      unfolding method_bytes method_size method_name_bytes method_name
      method_shows (method f w (signature ps r)) q p e g l d h k =
          let last : List ℕ = param_bytes itself r in
          let args : List ℕ = run (param_bytes itself) ps in
          let whole : From s p (f ∷ (bytes_of 4 q ++ (length ps ∷ (args ++ last)))) = simp append_assoc at h in
          let h1 = From-tail s p f (bytes_of 4 q ++ (length ps ∷ (args ++ last))) whole in
          let h2 = From-split (p + 1) 4 (bytes_of 4 q) (length ps ∷ (args ++ last)) (length_bytes 4 q) h1 in
          let h3 = From-at s (p + 1 + 4) (p + 5) (length ps ∷ (args ++ last)) (omega arith) h2.1 in
          let h4 = From-at s (p + 5 + 1) (p + 6) (args ++ last) (omega arith) (From-tail s (p + 5) (length ps) (args ++ last) h3) in
          let h5 = From-split (p + 6) (sum param_size ps) args last (length-run (param_bytes itself) param_size (length_param itself) ps) h4 in
          let rules = g.1.2 in (
            From-head s p f (bytes_of 4 q ++ (length ps ∷ (args ++ last))) whole,
            name_shows small (p + 1) q w l h2.0 k,
            From-head s (p + 5) (length ps) (args ++ last) h3,
            (
              p + 6 + sum param_size ps,
              run_shows (ShowsParam s) (GoodParam minor n) (param_bytes itself) param_size (length_param itself) param_shows ps (p + 6) (p + 6 + sum param_size ps)
                  (All-both RangedParam (ArgumentRule minor n) (GoodParam minor n) (λ x a b. (a, b.0.type)) ps g.0.2 rules.arguments) refl h5.0,
              param_shows r (p + 6 + sum param_size ps) e (g.0.3, rules.result.0.type) (omega arith) h5.1,
            ),
          )

      pub methods_show : (ms : List (Method ℕ)) (q p e : ℕ) → All (GoodMethod minor n) ms → 1 ≤ q → e ≡ p + sum method_size ms
          → From s p (methods_bytes itself q ms) → From s (q - 1) (run method_name_bytes ms) → Run (ShowsMethod s) p ms e
      unfolding methods_bytes sum run method_name_size
      methods_show [] q p e g l d h k = omega arith
      methods_show (m ∷ ms) q p e g l d h k =
          let q1 = name_after q (method_name m) in
          let z = From-split p (method_size m) (method_bytes itself q m) (methods_bytes itself q1 ms) (length_method itself q m) h in
          let y = From-split (q - 1) (method_name_size m) (method_name_bytes m) (run method_name_bytes ms) (length_method_name m) k in
          let j = after_name q (method_name m) l in (
            p + method_size m,
            method_shows m q p (p + method_size m) g.0 l refl z.0 y.0,
            methods_show ms q1 (p + method_size m) e g.1 j.0 (omega arith) z.1 (From-at s (q - 1 + method_name_size m) (q1 - 1) (run method_name_bytes ms) j.1 y.1),
          )
