-- A form whose uses lead to their words shows its entries, whichever words it stores.
-- Assumes nothing.
use mathlib.Core.Path.{◌≡◌, refl, ap, ◌∙◌}
use mathlib.Core.Bool.{Bool}
use mathlib.Core.Logic.{inl, inr}
use mathlib.Core.List.{List, [], ◌∷◌, map}
use mathlib.Core.Option.{Option, none, some}
use Prim.Native.Nat.{ℕ, zero, suc, ◌+◌, ◌-◌, ◌*◌, ◌^◌, ◌≤◌, ◌<◌}
use native.Mathlib.Omega.{arith}
use lib.ListN.{length, get_or, length-map}
use Rattle.key.specs.Key.{key}
use Rattle.reader.specs.Values.{method_name, constant_name, Descriptor, descriptor, Entry, entry, no_entry, empty, typelib}
use Rattle.reader.specs.Records.{Run, ShowsMethod, ShowsConstant, ShowsDescriptor, ShowsSpace, ShowsOwn, ShowsEntry, ShowsTypelib}
use Rattle.reader.specs.Rules.{All, DescriptorRule, OwnRule, EntryRule}
use Rattle.meaning.proofs.Maps.{itself}
use Rattle.meaning.specs.Normal.Size.{sum, method_size, constant_size, descriptor_size}
use Rattle.meaning.specs.Normal.Record.{method_bytes, constant_bytes, name_bytes, method_name_bytes, constant_name_bytes}
use Rattle.meaning.specs.Normal.Normal.{space_pointer, own_pointer, normal_header}
use Rattle.meaning.specs.Normal.Ranged.{Ranged, RangedOwn, RangedEntry}
use Rattle.meaning.proofs.Normal.Lengths.{length_method, length_constant}
use Rattle.meaning.proofs.Normal.From.{From, From-whole, From-left, From-at, From-word}
use Rattle.meaning.proofs.Normal.Shows.{From-split, GoodMethod, method_shows}
use Rattle.meaning.proofs.Normal.Descriptors.{GoodConstant, constant_shows, parts_show, good_methods}
use Rattle.meaning.proofs.Normal.Entries.{own_below, row_shows}
use Rattle.meaning.proofs.Normal.Files as files
use Rattle.meaning.specs.Stock.Uses.{names_of, own_words, space_words, key_words, entry_words, words_of, stored_size}
use Rattle.meaning.specs.Stock.Pool.{Piece, word, own_pieces, entry_pieces, pieces_of, words_in, pool_size}
use Rattle.meaning.specs.Stock.Form.{run_from, methods_with, constants_with, descriptor_with, pool_with, own_after, entry_with, directory_with, length_with, file_with}
use Rattle.meaning.proofs.Stock.Pools.{words_map, entry_words_lem, size_words, pool_append}
use Rattle.meaning.proofs.Stock.Lengths.{length_methods, length_constants, length_pool, length_entry, length_directory, length_file}
use Rattle.meaning.proofs.Stock.Leads.{LeadsAll, led_at, led_append}

-- ---- descriptors

module _ (s : List ℕ) (at : ℕ → ℕ) where
  Run-led : {X : Type 0} (P : ℕ → X → ℕ → Type 0) (W : X → Type 0) (one : ℕ → X → List ℕ) (size : X → ℕ) (name : X → List ℕ) → ((u : ℕ) (x : X) → length (one u x) ≡ size x)
      → ((x : X) (u p e : ℕ) → W x → 1 ≤ at u → e ≡ p + size x → From s p (one u x) → From s (at u - 1) (name_bytes (name x)) → P p x e)
      → (xs : List X) (u p e : ℕ) → All W xs → LeadsAll s at u (map name xs) → e ≡ p + sum size xs → From s p (run_from one u xs) → Run P p xs e
  unfolding run_from sum
  Run-led P W one size name long shows [] u p e a l q h = omega arith
  Run-led P W one size name long shows (x ∷ xs) u p e a l q h =
      let z = From-split s p (size x) (one u x) (run_from one (u + 1) xs) (long u x) h in (
        p + size x,
        shows x u p (p + size x) a.0 l.0 refl z.0 l.1,
        Run-led P W one size name long shows xs (u + 1) (p + size x) e a.1 l.2 (omega arith) z.1,
      )

  module _ (small : length s ≤ 1048576) (minor n : ℕ) (few : n ≤ 1024) where
    descriptor_led : (d : Descriptor ℕ) (u p : ℕ) → Ranged d → DescriptorRule minor n d → LeadsAll s at u (names_of d) → From s p (descriptor_with itself at u d) → ShowsDescriptor s p d (p + descriptor_size d)
    unfolding names_of descriptor_with methods_with constants_with method_name_bytes constant_name_bytes
    descriptor_led (descriptor up ms ks f) u p g r l h =
        let good = good_methods minor n up ms ks f g r in
        let names = led_append s at u (map method_name ms) (map constant_name ks) l in
        let later = led_at s at (u + length (map method_name ms)) (u + length ms) (map constant_name ks) (omega (arith, length-map ms method_name)) names.1 in
        parts_show s small minor n few up ms ks f p (methods_with itself at u ms) (constants_with at (u + length ms) ks) r (length_methods itself at u ms) (length_constants at (u + length ms) ks)
        (λ p e z x. Run-led (ShowsMethod s) (GoodMethod minor n) (λ k m. method_bytes itself (at k) m) method_size method_name (λ k m. length_method itself (at k) m)
        (λ m k p e. method_shows s minor n few small m (at k) p e) ms u p e good.0 names.0 z x)
        (λ p e z x. Run-led (ShowsConstant s) GoodConstant (λ k c. constant_bytes (at k) c) constant_size constant_name (λ k c. length_constant (at k) c)
        (λ c k p e. constant_shows s small c (at k) p e) ks (u + length ms) p e good.1 later z x)
        h

-- ---- entries

space_led : (pool : List ℕ) → length pool ≤ 1048576 → (at : ℕ → ℕ) (u : ℕ) (v : List ℕ) → LeadsAll pool at u (space_words v) → ShowsSpace pool (space_pointer (at u) v) v × (space_pointer (at u) v < 256 ^ 4)
unfolding space_words space_pointer
space_led pool small at u [] l = (inl (refl, refl), omega arith)
space_led pool small at u (b ∷ v) l =
    let k : at u - 1 + length (name_bytes (b ∷ v)) ≤ length pool = l.1.inside in
    (inr (From-word pool (at u) (b ∷ v) l.0 l.1, omega arith), omega arith)

module _ (s pool : List ℕ) (small : length pool ≤ 1048576) (at : ℕ → ℕ) (kept : ℕ → Bool) (minor n : ℕ) (few : n ≤ 1024) where
  abbrev written : ℕ → List (Piece ℕ) → List ℕ
  written u ps = pool_with itself at kept u ps

  own_led : (i : ℕ) (d : Option (Descriptor ℕ)) (u q : ℕ) → RangedOwn d → OwnRule minor n i d → LeadsAll pool at u (own_words d) → 1 ≤ q → From pool (q - 1) (written u (own_pieces d)) → ShowsOwn pool (own_pointer q d) d
  unfolding own_words own_pieces pool_with own_pointer
  own_led i none u q g r l m h = refl
  own_led i (some d) u q g r l m h =
      (m, (q - 1 + descriptor_size d, descriptor_led pool at small minor n few d u (q - 1) g r.1 l (From-left pool (q - 1) (descriptor_with itself at u d) (written u (map word (names_of d))) h)))

  entry_led : (e : Entry ℕ) (u q p : ℕ) → RangedEntry e → EntryRule minor n e → LeadsAll pool at u (entry_words e) → 1 ≤ q → From s p (entry_with at kept u q e) → From pool (q - 1) (written u (entry_pieces e)) → ShowsEntry s pool p e
  unfolding entry_words entry_pieces entry_with own_after
  entry_led (entry (key v w) i d) u q p g r l m h k =
      let ws = key_words (key v w) in
      let names = led_append pool at u ws (own_words d) l in
      let first : LeadsAll pool at u (w ∷ space_words v) = unfold key_words in names.0 in
      let q2 = q + stored_size kept u ws in
      let long : length (written u (map word ws)) ≡ stored_size kept u ws = length_pool itself at kept u (map word ws) ∙ size_words kept ℕ u ws in
      let count : u + length (words_in {R = ℕ} (map word ws)) ≡ u + length ws = ap (λ (x : List (List ℕ)). u + length x) (words_map ℕ ws) in
      let k1 = From-split pool (q - 1) (stored_size kept u ws) (written u (map word ws)) (written (u + length (words_in {R = ℕ} (map word ws))) (own_pieces d)) long (rw (pool_append itself at kept u (map word ws) (own_pieces d)) at k) in
      let k2 = rw count at (From-at pool (q - 1 + stored_size kept u ws) (q2 - 1) (written (u + length (words_in {R = ℕ} (map word ws))) (own_pieces d)) (omega arith) k1.1) in
      let low : at u - 1 + length (name_bytes w) ≤ length pool = first.1.inside in
      let high : q2 - 1 + length (written (u + length ws) (own_pieces d)) ≤ length pool = k2.inside in
      let space = space_led pool small at (u + 1) v first.2 in
      row_shows s pool small minor n few v w i d (at u) (space_pointer (at (u + 1)) v) (own_pointer q2 d) p g.0 (omega arith) space.1 (omega (arith, own_below q2 d))
      (From-word pool (at u) w first.0 first.1) space.0 (own_led i d (u + length ws) q2 g.1 r.2 names.1 (omega arith) k2) h

  -- what lies where: uses, rows of the directory and pieces of the pool
  abbrev Laid : ℕ → ℕ → ℕ → List (List ℕ) → List ℕ → List (Piece ℕ) → Type 0
  Laid u q p ws rows ps = LeadsAll pool at u ws × From s p rows × From pool (q - 1) (written u ps)

  Laid-cut : (e : Entry ℕ) (us : List (Entry ℕ)) (u q p : ℕ) → 1 ≤ q → Laid u q p (words_of (e ∷ us)) (directory_with at kept u q (e ∷ us)) (pieces_of (e ∷ us))
      → Laid u q p (entry_words e) (entry_with at kept u q e) (entry_pieces e)
      × Laid (u + length (entry_words e)) (q + pool_size kept u (entry_pieces e)) (p + 28) (words_of us) (directory_with at kept (u + length (entry_words e)) (q + pool_size kept u (entry_pieces e)) us) (pieces_of us)
  unfolding words_of pieces_of directory_with
  Laid-cut e us u q p m x =
      let size = pool_size kept u (entry_pieces e) in
      let after = written (u + length (words_in (entry_pieces e))) (pieces_of us) in
      let names = led_append pool at u (entry_words e) (words_of us) x.0 in
      let rows = From-split s p 28 (entry_with at kept u q e) (directory_with at kept (u + length (entry_words e)) (q + size) us) (length_entry at kept u q e) x.1 in
      let parts = From-split pool (q - 1) size (written u (entry_pieces e)) after (length_pool itself at kept u (entry_pieces e)) (rw (pool_append itself at kept u (entry_pieces e) (pieces_of us)) at x.2) in
      let next = rw (entry_words_lem e) at (From-at pool (q - 1 + size) (q + size - 1) after (omega arith) parts.1) in
      ((names.0, rows.0, parts.0), (names.1, rows.1, next))

  entries_led : (us : List (Entry ℕ)) (u q p : ℕ) → All RangedEntry us → All (EntryRule minor n) us → 1 ≤ q → Laid u q p (words_of us) (directory_with at kept u q us) (pieces_of us)
      → (k : ℕ) → k < length us → ShowsEntry s pool (p + 28 * k) (get_or us k no_entry)
  entries_led [] u q p g r m x k j = absurd (omega arith)
  entries_led (e ∷ us) u q p g r m x zero j =
      let y = (Laid-cut e us u q p m x).0 in
      let z : p + 28 * 0 ≡ p = omega arith in
      rw z (entry_led e u q p g.0 r.0 y.0 m y.1 y.2)
  entries_led (e ∷ us) u q p g r m x (suc k) j =
      let z : p + 28 * suc k ≡ p + 28 + 28 * k = omega arith in
      rw z (entries_led us (u + length (entry_words e)) (q + pool_size kept u (entry_pieces e)) (p + 28) g.1 r.1 (omega arith) (Laid-cut e us u q p m x).1 k (omega arith))

-- ---- the file

pub file_led : (us : List (Entry ℕ)) (at : ℕ → ℕ) (kept : ℕ → Bool) → length us ≤ 1024 → length_with kept us ≤ 1048576 → (minor : ℕ) → All RangedEntry us → All (EntryRule minor (length us)) us
    → ((pool : List ℕ) → From pool 0 (pool_with itself at kept 0 (pieces_of us)) → LeadsAll pool at 0 (words_of us))
    → ShowsTypelib (file_with itself at kept us) (typelib (normal_header us) (empty ∷ []) us)
unfolding file_with
file_led us at kept few short minor g r led =
    let s = file_with itself at kept us in
    files.parts_show us s (directory_with at kept 0 1 us) (pool_with itself at kept 0 (pieces_of us)) (length_with kept us) few (length_file at kept itself us) short (length_directory at kept 0 1 us) (From-whole s)
    (λ pool inner rows rest k l. entries_led s pool inner at kept minor (length us) few us 0 1 36 g r (omega arith) (led pool rest, rows, rest) k l)
