-- The length of the normal form: never more than that of the plain form, and never less when facts are added.
-- Assumes nothing.
use mathlib.Core.Path.{◌≡◌, refl}
use mathlib.Core.Logic.{inl, inr}
use mathlib.Core.List.{List, [], ◌∷◌, ◌++◌, map}
use mathlib.Core.Option.{Option, none, some}
use Prim.Native.Nat.{ℕ, ◌+◌, ◌≤◌}
use native.Mathlib.Omega.{arith}
use Rattle.key.specs.Key.{Key, key}
use Rattle.reader.specs.Values.{method_name, constant_name, Descriptor, descriptor, Entry, entry}
use Rattle.meaning.specs.Facts.Facts.{In, Sub, Within}
use Rattle.meaning.specs.Facts.Union.{descriptor_for, entry_for, union}
use Rattle.meaning.specs.Facts.Conditions.{Agree}
use Rattle.meaning.specs.Facts.Link.{Grows}
use Rattle.meaning.proofs.Facts.Sets.{In-left, In-right, In-append, weigh}
use Rattle.meaning.proofs.Facts.Unions.{descriptor_more, made, made_for}
use Rattle.meaning.proofs.Facts.Agrees.{Agree-Sound}
use Rattle.meaning.proofs.Facts.Algebra.{Rises, sum_Grows}
use Rattle.meaning.specs.Normal.Size.{sum, name_size, method_name_size, constant_name_size, names_size, space_size, own_size, entry_size, entry_length, plain_length}
use Rattle.meaning.specs.Stock.Uses.{names_of, own_words, space_words, key_words, entry_words, words_of, own_body, body_length, normal_length}
use Rattle.meaning.proofs.Stock.Stock.{stock_grows, stock_shorter}

-- ---- never longer

weigh-append : (xs ys : List (List ℕ)) → weigh name_size (xs ++ ys) ≡ weigh name_size xs + weigh name_size ys
weigh-append [] ys = omega arith
weigh-append (x ∷ xs) ys = omega (arith, weigh-append xs ys)

pub weigh_names : {X : Type 0} (f : X → List ℕ) (xs : List X) → weigh name_size (map f xs) ≡ sum (λ x. name_size (f x)) xs
unfolding sum
weigh_names f [] = refl
weigh_names f (x ∷ xs) = omega (arith, weigh_names f xs)

pub space_weighs : (v : List ℕ) → weigh name_size (space_words v) ≡ space_size v
unfolding space_words space_size
space_weighs [] = refl
space_weighs (b ∷ v) = omega arith

module _ {R : Type 0} where
  own_weighs : (d : Option (Descriptor R)) → own_body d + weigh name_size (own_words d) ≡ own_size d
  unfolding own_body own_words names_of own_size names_size method_name_size constant_name_size
  own_weighs none = refl
  own_weighs (some (descriptor up ms ks f)) =
      omega (arith, weigh-append (map method_name ms) (map constant_name ks), weigh_names method_name ms, weigh_names constant_name ks)

  pub entry_weighs : (u : Entry R) → body_length u + weigh name_size (entry_words u) ≡ entry_length u
  unfolding body_length entry_words key_words entry_length entry_size
  entry_weighs (entry (key v w) i d) = omega (arith, weigh-append (space_words v) (own_words d), space_weighs v, own_weighs d)

  pub words_weigh : (us : List (Entry R)) → sum body_length us + weigh name_size (words_of us) ≡ sum entry_length us
  unfolding sum words_of
  words_weigh [] = refl
  words_weigh (u ∷ us) = omega (arith, weigh-append (entry_words u) (words_of us), entry_weighs u, words_weigh us)

  pub once_shorter : (us : List (Entry R)) → normal_length us ≤ plain_length us
  unfolding normal_length plain_length
  once_shorter us = omega (arith, words_weigh us, stock_shorter (words_of us))

-- ---- which words are used

words_In : (w : List ℕ) (us : List (Entry Key)) → In w (words_of us) → (u : Entry Key) × In u us × In w (entry_words u)
unfolding words_of
words_In w [] i = absurd i
words_In w (u ∷ us) i = elim (In-append w (entry_words u) (words_of us) i) [
  | inl a ↦ (u, inl refl, a)
  | inr b ↦ let r = words_In w us b in (r.0, inr r.1, r.2)
]

In-words : (w : List ℕ) (u : Entry Key) (us : List (Entry Key)) → In u us → In w (entry_words u) → In w (words_of us)
unfolding words_of
In-words w u [] x'' i = elim x'' [ ]
In-words w u (v ∷ us) (inl e) i = In-left w (entry_words v) (words_of us) (rw e at i)
In-words w u (v ∷ us) (inr m) i = In-right w (entry_words v) (words_of us) (In-words w u us m i)

own_more : (c d : Option (Descriptor Key)) → ((x : Descriptor Key) → c ≡ some x → d ≡ some x) → Sub (own_words c) (own_words d)
unfolding own_words
own_more none d f w i = absurd i
own_more (some x) d f w i = rw (f x refl) i

entry_more : (k : Key) (i j : ℕ) (c d : Option (Descriptor Key)) → Sub (own_words c) (own_words d) → Sub (entry_words (entry k i c)) (entry_words (entry k j d))
unfolding entry_words
entry_more k i j c d f x m = elim (In-append x (key_words k) (own_words c) m) [
  | inl a ↦ In-left x (key_words k) (own_words d) a
  | inr b ↦ In-right x (key_words k) (own_words d) (f x b)
]

words_more : (es fs : List (Entry Key)) → Within es fs → Agree fs → Sub (words_of (union es)) (words_of (union fs))
unfolding entry_for
words_more es fs v a w i =
    let r = words_In w (union es) i in
    let s = made_for es r.0 r.1 in
    let k : Key = s.0 in
    let m = own_more (descriptor_for es k) (descriptor_for fs k) (descriptor_more es fs v (Agree-Sound fs a).descriptors k) in
    In-words w (entry_for fs k) (union fs) (made fs k (v.keys k s.1)) (entry_more k _ _ _ _ m w (rw s.2 at r.2))

-- ---- never less

rises : Rises body_length
unfolding body_length own_body
rises = record { iid = λ k i d. omega arith; descriptor = λ k i d. omega arith }

sum_weighs : (es : List (Entry Key)) → sum body_length es ≡ weigh body_length es
unfolding sum
sum_weighs [] = refl
sum_weighs (e ∷ es) = omega (arith, sum_weighs es)

bodies_grow : Grows (λ us. sum body_length us)
bodies_grow = sum_Grows (λ us. sum body_length us) 0 body_length rises (λ es. omega (arith, sum_weighs (union es)))

pub normal_Grows : Grows normal_length
unfolding normal_length
normal_Grows es fs v a b = omega (arith, bodies_grow es fs v a b, stock_grows (words_of (union es)) (words_of (union fs)) (words_more es fs v b))
