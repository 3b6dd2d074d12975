-- Lists by the index of their elements: their ends, what is present in them, records read in turn.
-- Assumes nothing.
use mathlib.Core.Path.{◌≡◌, refl, sym, ap, ◌∙◌}
use mathlib.Core.List.{List, [], ◌∷◌, ◌++◌}
use mathlib.Core.Option.{Option, none, some}
use Prim.Native.Nat.{ℕ, zero, suc, ◌+◌, ◌*◌, ◌<◌}
use native.Mathlib.Omega.{arith}
use lib.ListN.{length, get_or}
use lib.Seq.{ext_get_or}
use Rattle.reading.specs.Got.{Got, got, many}
use Rattle.reading.proofs.Passes.{pass_next}
use Rattle.directory.specs.Directory.{Row, row}
use Rattle.descriptor.specs.Descriptor.{Descriptor}
use Rattle.typelib.specs.Entry.{Entry, entries_of}
use Rattle.typelib.proofs.EntryLaws.{entry_with}
use Rattle.bridge.specs.Span.{span}
use Rattle.bridge.proofs.Spans.{length-span, span_at}
use Rattle.mend.specs.Left.{prepend, present}

module _ {X : Type 0} where
  -- a list is that of its elements
  pub span_is : (d : X) (f : ℕ → X) (xs : List X) (c : ℕ) → length xs ≡ c → ((q : ℕ) → q < c → f q ≡ get_or xs q d) → span f c ≡ xs
  span_is d f xs c n h =
      ext_get_or d (span f c) xs (length-span f c ∙ sym n) (λ q l. let m : q < c = omega (arith, length-span f c) in span_at f c q d m ∙ h q m)

  -- ---- what is present

  prepend_more : (o : Option X) (xs ys : List X) → prepend o (xs ++ ys) ≡ prepend o xs ++ ys
  unfolding prepend
  prepend_more none xs ys = refl
  prepend_more (some x) xs ys = refl

  pub present_more : (f : ℕ → Option X) (c : ℕ) → present (span f (suc c)) ≡ present (span f c) ++ prepend (f c) []
  unfolding span present
  present_more f zero = refl
  present_more f (suc c) =
      ap (prepend (f 0)) (present_more (λ q. f (suc q)) c) ∙ prepend_more (f 0) (present (span (λ q. f (suc q)) c)) (prepend (f (suc c)) [])

  pub present-none : (f : ℕ → Option X) (c : ℕ) → ((k : ℕ) → k < c → f k ≡ none) → present (span f c) ≡ []
  unfolding span present prepend
  present-none f zero h = refl
  present-none f (suc c) h = rw (h 0 (omega arith)) (present-none (λ q. f (suc q)) c (λ k l. h (suc k) (omega arith)))

  -- records of w bytes that can each be read are read in turn
  pub many-span : (rd : ℕ → Got X) (w n at : ℕ) (f : ℕ → X) → ((k : ℕ) → k < n → rd (at + w * k) ≡ got (f k) (at + w * k + w)) → many rd n at ≡ got (span f n) (at + w * n)
  unfolding many span
  many-span rd w zero at f h = let z : at ≡ at + w * 0 = omega arith in ap (got []) z
  many-span rd w (suc n) at f h =
      let z : at + w * 0 ≡ at = omega arith in
      let q : at + w + w * n ≡ at + w * suc n = omega arith in
      pass_next _ _ (rw z at (h 0 (omega arith))) (
      pass_next _ _ (many-span rd w n (at + w) (λ k. f (suc k)) (λ k l. let y : at + w * suc k ≡ at + w + w * k = omega arith in rw y at (h (suc k) (omega arith)))) (
      ap (got (f 0 ∷ span (λ k. f (suc k)) n)) q))

-- rows and descriptors by index are entries by index
pub entries_span : (f : ℕ → Row) (g : ℕ → Option (Descriptor ℕ)) (n : ℕ) → entries_of (span f n) (span g n) ≡ span (λ k. entry_with (f k) (g k)) n
unfolding span entries_of entry_with
entries_span f g zero = refl
entries_span f g (suc n) = go (f 0) ∙ ap (λ (es : List (Entry ℕ)). entry_with (f 0) (g 0) ∷ es) (entries_span (λ k. f (suc k)) (λ k. g (suc k)) n)
  where
    go : (r : Row) → entries_of (r ∷ span (λ k. f (suc k)) n) (g 0 ∷ span (λ k. g (suc k)) n) ≡ entry_with r (g 0) ∷ entries_of (span (λ k. f (suc k)) n) (span (λ k. g (suc k)) n)
    go (row i k q) = refl
