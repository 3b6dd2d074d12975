-- The bytes of the directory and of the pool show the entries.
-- Assumes nothing.
use mathlib.Core.Path.{◌≡◌, refl}
use mathlib.Core.Logic.{inl, inr}
use mathlib.Core.List.{List, [], ◌∷◌, ◌++◌, append_assoc}
use mathlib.Core.Option.{Option, none, some}
use Prim.Native.Nat.{ℕ, zero, suc, ◌+◌, ◌-◌, ◌*◌, ◌^◌, ◌≤◌, ◌<◌}
use native.Mathlib.Omega.{arith}
use lib.ListN.{length, get_or}
use Rattle.key.specs.Key.{key}
use Rattle.reader.specs.Values.{Descriptor, Entry, entry, no_entry}
use Rattle.reader.specs.Records.{ShowsWord, ShowsSpace, ShowsOwn, ShowsEntry}
use Rattle.reader.specs.Rules.{All, OwnRule, EntryRule}
use Rattle.meaning.proofs.Maps.{itself}
use Rattle.meaning.specs.Normal.BigEndian.{bytes_of}
use Rattle.meaning.specs.Normal.Size.{descriptor_size, name_size, space_size, entry_size}
use Rattle.meaning.specs.Normal.Record.{name_after, descriptor_bytes, name_bytes, names_bytes}
use Rattle.meaning.specs.Normal.Normal.{space_from, own_from, names_from, space_bytes, own_bytes, entry_pool, pool_bytes, space_pointer, own_pointer, entry_bytes, directory_bytes}
use Rattle.meaning.specs.Normal.Ranged.{RangedOwn, RangedEntry}
use Rattle.meaning.proofs.Normal.Lengths.{length_bytes, length_name, length_space, length_descriptor, length-entry_pool, length_entry}
use Rattle.meaning.proofs.Normal.From.{From, From-at, From-number, From-word}
use Rattle.meaning.proofs.Normal.Shows.{after_name, From-split}
use Rattle.meaning.proofs.Normal.Descriptors.{descriptor_shows}

-- ---- pointers

pub space_below : (q : ℕ) (v : List ℕ) → space_pointer q v ≤ q
unfolding space_pointer
space_below q [] = omega arith
space_below q (b ∷ v) = omega arith

pub own_below : {R : Type 0} (q : ℕ) (d : Option (Descriptor R)) → own_pointer q d ≤ q
unfolding own_pointer
own_below q none = omega arith
own_below q (some d) = omega arith

space_shows : (pool : List ℕ) (v : List ℕ) (q : ℕ) → 1 ≤ q → From pool (q - 1) (space_bytes v) → ShowsSpace pool (space_pointer q v) v
unfolding space_bytes space_pointer
space_shows pool [] q l h = inl (refl, refl)
space_shows pool (b ∷ v) q l h = inr (From-word pool q (b ∷ v) l h, omega arith)

module _ (s pool : List ℕ) (small : length pool ≤ 1048576) (minor n : ℕ) (few : n ≤ 1024) where
  own_shows : (i : ℕ) (d : Option (Descriptor ℕ)) (q : ℕ) → RangedOwn d → OwnRule minor n i d → 1 ≤ q → From pool (q - 1) (own_bytes itself q d) → ShowsOwn pool (own_pointer q d) d
  unfolding own_bytes own_pointer names_from
  own_shows i none q g r l h = refl
  own_shows i (some d) q g r l h =
      let z = From-split pool (q - 1) (descriptor_size d) (descriptor_bytes itself (q + descriptor_size d) d) (names_bytes d) (length_descriptor itself (q + descriptor_size d) d) h in
      let names = From-at pool (q - 1 + descriptor_size d) (q + descriptor_size d - 1) (names_bytes d) (omega arith) z.1 in
      (l, (q - 1 + descriptor_size d, descriptor_shows pool small minor n few d (q + descriptor_size d) (q - 1) g r.1 (omega arith) z.0 names))

  -- ---- entries

  -- an IID, and pointers that lead to the name, the namespace and the descriptor
  pub row_shows : (v w : List ℕ) (i : ℕ) (d : Option (Descriptor ℕ)) (q a b p : ℕ) → i < 256 ^ 16 → q < 256 ^ 4 → a < 256 ^ 4 → b < 256 ^ 4
      → ShowsWord pool q w → ShowsSpace pool a v → ShowsOwn pool b d
      → From s p (bytes_of 16 i ++ bytes_of 4 q ++ bytes_of 4 a ++ bytes_of 4 b) → ShowsEntry s pool p (entry (key v w) i d)
  row_shows v w i d q a b p gi gq ga gb word space own h =
      let whole : From s p (bytes_of 16 i ++ (bytes_of 4 q ++ (bytes_of 4 a ++ bytes_of 4 b))) = simp append_assoc at h in
      let h1 = From-split s p 16 (bytes_of 16 i) (bytes_of 4 q ++ (bytes_of 4 a ++ bytes_of 4 b)) (length_bytes 16 i) whole in
      let h2 = From-split s (p + 16) 4 (bytes_of 4 q) (bytes_of 4 a ++ bytes_of 4 b) (length_bytes 4 q) h1.1 in
      let h3 = From-split s (p + 20) 4 (bytes_of 4 a) (bytes_of 4 b) (length_bytes 4 a) (From-at s (p + 16 + 4) (p + 20) (bytes_of 4 a ++ bytes_of 4 b) (omega arith) h2.1) in
      let h4 = From-at s (p + 20 + 4) (p + 24) (bytes_of 4 b) (omega arith) h3.1 in (
        From-number s 16 p i gi h1.0,
        rw (From-number s 4 (p + 16) q gq h2.0) word,
        rw (From-number s 4 (p + 20) a ga h3.0) space,
        rw (From-number s 4 (p + 24) b gb h4) own,
      )

  entry_shows : (u : Entry ℕ) (q p : ℕ) → RangedEntry u → EntryRule minor n u → 1 ≤ q → From s p (entry_bytes q u) → From pool (q - 1) (entry_pool itself q u) → ShowsEntry s pool p u
  unfolding entry_bytes entry_pool space_from own_from
  entry_shows (entry (key v w) i d) q p g r l h k =
      let q1 = name_after q w in
      let q2 = q1 + space_size v in
      let part : From pool (q - 1) (name_bytes w ++ (space_bytes v ++ own_bytes itself q2 d)) = simp append_assoc at k in
      let k1 = From-split pool (q - 1) (name_size w) (name_bytes w) (space_bytes v ++ own_bytes itself q2 d) (length_name w) part in
      let j = after_name q w l in
      let k2 = From-split pool (q1 - 1) (space_size v) (space_bytes v) (own_bytes itself q2 d) (length_space v) (From-at pool (q - 1 + name_size w) (q1 - 1) (space_bytes v ++ own_bytes itself q2 d) j.1 k1.1) in
      let one : 1 ≤ q1 = j.0 in
      let k3 = From-at pool (q1 - 1 + space_size v) (q2 - 1) (own_bytes itself q2 d) (omega arith) k2.1 in
      let high : q2 - 1 + length (own_bytes itself q2 d) ≤ length pool = k3.inside in
      let low : q - 1 + length (name_bytes w) ≤ length pool = k1.0.inside in
      row_shows v w i d q (space_pointer q1 v) (own_pointer q2 d) p g.0 (omega arith) (omega (arith, space_below q1 v)) (omega (arith, own_below q2 d))
      (From-word pool q w l k1.0) (space_shows pool v q1 one k2.0) (own_shows i d q2 g.1 r.2 (omega arith) k3) h

  pub entries_show : (us : List (Entry ℕ)) (q p : ℕ) → All RangedEntry us → All (EntryRule minor n) us → 1 ≤ q
      → From s p (directory_bytes q us) → From pool (q - 1) (pool_bytes itself q us) → (k : ℕ) → k < length us → ShowsEntry s pool (p + 28 * k) (get_or us k no_entry)
  unfolding directory_bytes pool_bytes
  entries_show [] q p g r l h m k j = absurd (omega arith)
  entries_show (u ∷ us) q p g r l h m zero j =
      let rows = From-split s p 28 (entry_bytes q u) (directory_bytes (q + entry_size u) us) (length_entry q u) h in
      let parts = From-split pool (q - 1) (entry_size u) (entry_pool itself q u) (pool_bytes itself (q + entry_size u) us) (length-entry_pool itself q u) m in
      let e : p + 28 * 0 ≡ p = omega arith in
      rw e (entry_shows u q p g.0 r.0 l rows.0 parts.0)
  entries_show (u ∷ us) q p g r l h m (suc k) j =
      let q1 = q + entry_size u in
      let rows = From-split s p 28 (entry_bytes q u) (directory_bytes q1 us) (length_entry q u) h in
      let parts = From-split pool (q - 1) (entry_size u) (entry_pool itself q u) (pool_bytes itself q1 us) (length-entry_pool itself q u) m in
      let next = From-at pool (q - 1 + entry_size u) (q1 - 1) (pool_bytes itself q1 us) (omega arith) parts.1 in
      let e : p + 28 * suc k ≡ p + 28 + 28 * k = omega arith in
      rw e (entries_show us q1 (p + 28) g.1 r.1 (omega arith) rows.1 next k (omega arith))
