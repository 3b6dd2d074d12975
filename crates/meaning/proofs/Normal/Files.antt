-- The bytes of a file show its entries, and each of them is a byte.
-- Assumes nothing.
use mathlib.Core.Path.{◌≡◌, refl, sym, ap, ◌∙◌}
use mathlib.Core.List.{List, [], ◌∷◌, ◌++◌, append_assoc}
use Prim.Native.Nat.{ℕ, ◌+◌, ◌*◌, ◌^◌, ◌≤◌, ◌<◌}
use native.Mathlib.Decide.{ℕ_discrete}
use native.Mathlib.Omega.{arith}
use lib.ListN.{length, get_or, drop, length-drop}
use Rattle.number.specs.Choice.{when◌then◌else◌, ◌=?◌}
use Rattle.number.proofs.Choice.{is_eq, no_eq}
use Rattle.reader.specs.Values.{Entry, no_entry, Header, empty, typelib}
use Rattle.reader.specs.Records.{magic, annotation_limit, pool_of, ShowsHeader, ShowsText, ShowsNote, Marks, ShowsNotes, ShowsEntry, ShowsTypelib}
use Rattle.reader.specs.Rules.{All, EntryRule}
use Rattle.meaning.proofs.Maps.{itself}
use Rattle.meaning.specs.Normal.BigEndian.{bytes_of}
use Rattle.meaning.specs.Normal.Size.{sum, entry_size, plain_length}
use Rattle.meaning.specs.Normal.Normal.{pool_bytes, directory_bytes, normal_header, header_bytes, note_bytes, plain_bytes}
use Rattle.meaning.specs.Normal.Ranged.{RangedEntry}
use Rattle.meaning.proofs.Normal.Lengths.{length_bytes, length_header, length_directory, length_file, sum_entries}
use Rattle.meaning.proofs.Normal.From.{From, From-whole, From-at, From-head, From-tail, From-number, From-drop}
use Rattle.meaning.proofs.Normal.Shows.{From-split}
use Rattle.meaning.proofs.Normal.Entries.{entries_show}

-- ---- header and annotation

header_shows : (s : List ℕ) (h : Header) → h.count < 256 ^ 2 → length s < 256 ^ 4 → h.directory < 256 ^ 4 → h.pool < 256 ^ 4 → From s 0 (header_bytes h (length s)) → ShowsHeader s h
unfolding header_bytes
header_shows s h a b c d f =
    let t4 : List ℕ = bytes_of 4 h.directory ++ bytes_of 4 h.pool in
    let t3 : List ℕ = bytes_of 4 (length s) ++ t4 in
    let t2 : List ℕ = bytes_of 2 h.count ++ t3 in
    let whole : From s 0 (magic ++ (1 ∷ h.minor ∷ t2)) = simp append_assoc at f in
    let f1 = From-split s 0 16 magic (1 ∷ h.minor ∷ t2) refl whole in
    let f2 = From-tail s 16 1 (h.minor ∷ t2) f1.1 in
    let f3 = From-tail s 17 h.minor t2 f2 in
    let f4 = From-split s 18 2 (bytes_of 2 h.count) t3 (length_bytes 2 h.count) f3 in
    let f5 = From-split s 20 4 (bytes_of 4 (length s)) t4 (length_bytes 4 (length s)) f4.1 in
    let f6 = From-split s 24 4 (bytes_of 4 h.directory) (bytes_of 4 h.pool) (length_bytes 4 h.directory) f5.1 in
    let last : 28 + length (bytes_of 4 h.pool) ≤ length s = f6.1.inside in
    record {
      inside = omega (arith, length_bytes 4 h.pool);
      magic_bytes = λ i l. let e : i ≡ 0 + i = omega arith in ap (λ (j : ℕ). get_or s j 0) e ∙ f1.0.same i l;
      major = (From-head s 16 1 (h.minor ∷ t2) f1.1).value;
      minor = (From-head s 17 h.minor t2 f2).value;
      count = From-number s 2 18 h.count a f4.0;
      size = From-number s 4 20 (length s) b f5.0;
      directory = From-number s 4 24 h.directory c f6.0;
      pool = From-number s 4 28 h.pool d f6.1;
    }

-- one annotation, empty and marked last
note_shows : (s : List ℕ) → From s 32 note_bytes → ShowsNotes ShowsText s 32 (empty ∷ []) 33
unfolding ShowsNotes ShowsNote Marks note_bytes
note_shows s h =
    let e : get_or s 32 0 ≡ 128 = (From-head s 32 128 (0 ∷ 0 ∷ 0 ∷ []) h).value in
    (omega arith, (33, (rw e refl, refl), refl))

length_note : length note_bytes ≡ 4
unfolding note_bytes
length_note = refl

-- ---- where the parts are

module _ {R : Type 0} (us : List (Entry R)) where
  pub directory_none : length us ≡ 0 → (normal_header us).directory ≡ 0
  unfolding normal_header
  directory_none e = sym (is_eq (length us) 0 0 36 e refl)

  pub directory_at_lem : (length us ≡ 0 → ⊥) → (normal_header us).directory ≡ 36
  unfolding normal_header
  directory_at_lem e = sym (no_eq (length us) 0 0 36 e refl)

  pub directory_most : (normal_header us).directory ≤ 36
  directory_most = elim (ℕ_discrete (length us) 0) [ yes e ↦ omega (arith, directory_none e) | no e ↦ omega (arith, directory_at_lem e) ]

  limit_at_lem : 33 ≤ annotation_limit (normal_header us)
  unfolding annotation_limit normal_header
  limit_at_lem = elim (ℕ_discrete (length us) 0) [
    | yes e ↦ omega (arith, is_eq (length us) 0 (36 + 28 * length us) (when length us =? 0 then 0 else 36) e refl)
    | no e ↦ omega (arith, no_eq (length us) 0 (36 + 28 * length us) (when length us =? 0 then 0 else 36) e (no_eq (length us) 0 0 36 e refl))
  ]

  pub header_count : (normal_header us).count ≡ length us
  unfolding normal_header
  header_count = refl

  pub header_pool : (normal_header us).pool ≡ 36 + 28 * length us
  unfolding normal_header
  header_pool = refl

  -- header, annotation, directory and pool
  pub length_parts : plain_length us ≡ 36 + 28 * length us + sum entry_size us
  unfolding plain_length
  length_parts = omega (arith, sum_entries us)

-- ---- the file

-- header, annotation, directory and pool in turn show the entries that the directory and the pool show
pub parts_show : (us : List (Entry ℕ)) (s dir rest : List ℕ) (len : ℕ) → length us ≤ 1024 → length s ≡ len → len ≤ 1048576 → length dir ≡ 28 * length us
    → From s 0 (header_bytes (normal_header us) len ++ note_bytes ++ dir ++ rest)
    → ((pool : List ℕ) → length pool ≤ 1048576 → From s 36 dir → From pool 0 rest → (k : ℕ) → k < length us → ShowsEntry s pool (36 + 28 * k) (get_or us k no_entry))
    → ShowsTypelib s (typelib (normal_header us) (empty ∷ []) us)
unfolding pool_of
parts_show us s dir rest len few size short long f each =
    let count = header_count us in
    let pool = header_pool us in
    let most = directory_most us in
    let head : List ℕ = header_bytes (normal_header us) len in
    let whole : From s 0 (head ++ (note_bytes ++ (dir ++ rest))) = simp append_assoc at f in
    let h1 = From-split s 0 32 head (note_bytes ++ (dir ++ rest)) (length_header (normal_header us) len) whole in
    let h2 = From-split s 32 4 note_bytes (dir ++ rest) length_note h1.1 in
    let h3 = From-split s 36 (28 * length us) dir rest long h2.1 in
    let last : 36 + 28 * length us + length rest ≤ length s = h3.1.inside in
    let inner : length (drop (normal_header us).pool s) ≤ 1048576 = omega (arith, length-drop (normal_header us).pool s) in
    let pooled = From-drop s (normal_header us).pool 0 rest (From-at s (36 + 28 * length us) ((normal_header us).pool + 0) rest (omega arith) h3.1) (omega arith) in (
      header_shows s (normal_header us) (omega arith) (omega arith) (omega arith) (omega arith) (rw size h1.0),
      (33, note_shows s h2.0, limit_at_lem us),
      record {
        count = sym count;
        each = λ k l.
            let e : (normal_header us).directory ≡ 36 = directory_at_lem us (λ z. omega arith) in
            rw e (each (drop (normal_header us).pool s) inner h3.0 pooled k (omega arith));
      },
    )

pub file_shows : (us : List (Entry ℕ)) → length us ≤ 1024 → plain_length us ≤ 1048576 → (minor : ℕ) → All RangedEntry us → All (EntryRule minor (length us)) us
    → ShowsTypelib (plain_bytes itself us) (typelib (normal_header us) (empty ∷ []) us)
unfolding plain_bytes
file_shows us few short minor g r =
    let s = plain_bytes itself us in
    parts_show us s (directory_bytes 1 us) (pool_bytes itself 1 us) (plain_length us) few (length_file itself us) short (length_directory 1 us) (From-whole s)
    (λ pool inner rows rest k l. entries_show s pool inner minor (length us) few us 1 36 g r (omega arith) rows rest k l)
