-- The descriptor that a pointer leads to.
-- Assumes nothing.
use mathlib.Core.Path.{◌≡◌, sym, ◌∙◌}
use mathlib.Core.List.{List, ◌++◌, map}
use mathlib.Core.Option.{Option}
use Prim.Native.Nat.{ℕ, ◌+◌, ◌-◌, ◌≤◌}
use native.Mathlib.Decide.{ℕ_discrete, dec_le}
use native.Mathlib.Omega.{arith}
use lib.ListN.{length}
use Rattle.number.specs.Limits.{file_limit}
use Rattle.reader.specs.Values.{method_name, constant_name, Descriptor, descriptor}
use Rattle.reader.specs.Records.{ShowsDescriptor}
use Rattle.meaning.specs.Meaning.{map_method, map_descriptor}
use Rattle.meaning.proofs.Maps.{map-list}
use Rattle.meaning.specs.Normal.Size.{descriptor_size}
use Rattle.meaning.proofs.Normal.Mapped.{name_mapped, descriptor_size_lem}
use Rattle.names.specs.Uses.{use_limit}
use Rattle.meaning.specs.Stock.Uses.{names_of, own_words, own_body}
use Rattle.writing.specs.Source.{Known}
use Rattle.writing.specs.Wrote.{Room}
use Rattle.writing.proofs.Sizes as sizes
use Rattle.gather.specs.declared.Passed.{Passed}
use Rattle.gather.specs.Words.{NamedDescriptor, Means, Based, PutDescriptor}
use Rattle.gather.specs.Leading.{shifted, Bodied, OwnLed, PutOwn}
use Rattle.gather.proofs.Words.{put_none, put_map}

-- names do not depend on references
pub names_mapped : {R S : Type 0} (g : R → S) (d : Descriptor R) → names_of (map_descriptor g d) ≡ names_of d
unfolding names_of map_descriptor
names_mapped g (descriptor up ms ks f) = λ i. map-list method_name (map_method g) method_name (name_mapped g) ms i ++ map constant_name ks

module _ (pool other t : List ℕ) (u : ℕ) (x : Passed) where
  pub put_absent : (n b : ℕ) (d : Option (Descriptor ℕ)) → b ≡ 0 → OwnLed pool other n b d → x.next ≡ u → x.size ≡ 0 → PutOwn pool other t t u x d
  unfolding own_words own_body
  put_absent n b d z l e f = rw (l.absent z) (record { next = omega (arith, e); size = f; words = put_none (Means pool other) t u })

  -- one that `s` shows, which is one of the pools
  module _ (s v : List ℕ) (p shift base : ℕ) (means : (w : ℕ) (y : List ℕ) → Based s base w y → Means pool other w y) (a : PutDescriptor (Known (ShowsDescriptor s) NamedDescriptor p) s base t v u x) where
    pub put_present : (d : Option (Descriptor ℕ)) → Bodied s p shift d → PutOwn pool other t v u x d
    unfolding own_words own_body
    put_present d b =
        let m = names_mapped (shifted shift) b.own in
        rw b.same (record {
          next = rw m (a.next b.own b.end b.known);
          size = a.size b.own b.end b.known ∙ sym (descriptor_size_lem (shifted shift) b.own);
          words = put_map (Based s base) (Means pool other) means t v u (names_of (map_descriptor (shifted shift) b.own)) (rw m (a.words b.own b.end b.known));
        })

-- there is room for its names
pub body_Room : (s : List ℕ) (p shift u : ℕ) (d : Option (Descriptor ℕ)) → u + 2048 ≤ use_limit → Bodied s p shift d → Room (Known (ShowsDescriptor s) NamedDescriptor p) (λ (d : Descriptor ℕ). length (names_of d)) (use_limit - u)
body_Room s p shift u d l b = record { value = b.own; end = b.end; shown = b.known; room = omega (arith, b.few) }

-- ---- it is no longer than its pool

inside : (s : List ℕ) (p : ℕ) (d : Descriptor ℕ) (e : ℕ) → ShowsDescriptor s p d e → descriptor_size d ≤ length s
inside s p (descriptor up ms ks f) e k = omega (arith, sizes.descriptor_end s p (descriptor up ms ks f) e k, k.2.3.3, k.2.3.2.inside)

body_small : (s : List ℕ) (p shift : ℕ) (d : Option (Descriptor ℕ)) → Bodied s p shift d → own_body d ≤ length s
unfolding own_body
body_small s p shift d b = rw b.same (omega (arith, descriptor_size_lem (shifted shift) b.own, inside s p b.own b.end b.known.shown))

pub own_small : (pool other : List ℕ) (n b : ℕ) (d : Option (Descriptor ℕ)) → length pool ≤ file_limit → length other ≤ file_limit → OwnLed pool other n b d → own_body d ≤ file_limit
unfolding own_body
own_small pool other n b d s t l = elim (ℕ_discrete b 0) [
  | yes z ↦ rw (l.absent z) (omega arith)
  | no z ↦ elim (dec_le b file_limit) [
    | yes m ↦ omega (arith, body_small pool (b - 1) 0 d (l.here z m))
    | no m ↦ omega (arith, body_small other (b - file_limit - 1) n d (l.there (omega arith)))
  ]
]
