-- The plain form reads back.
-- Assumes nothing.
use mathlib.Core.Path.{◌≡◌, refl, sym, ap, ◌∙◌, subst}
use mathlib.Core.Bool.{true}
use mathlib.Core.List.{List, [], ◌∷◌}
use Prim.Native.Nat.{ℕ, ◌+◌, ◌*◌, ◌≤◌}
use native.Mathlib.Omega.{arith}
use lib.ListN.{length}
use Rattle.key.specs.Key.{Key}
use Rattle.reading.specs.Got.{Got, got, bad}
use Rattle.reader.specs.Values.{Entry, Header, empty, Typelib, typelib, entries_in}
use Rattle.reader.specs.Records.{Bytes, ShowsTypelib, NotesRule}
use Rattle.reader.specs.Rules.{All, InDirectory, EntryRule, InOrder, UniqueKeys, NoCycle, PositionRule}
use Rattle.reader.specs.Reader.{decode}
use Rattle.reader.specs.Reader.Laws.{shown_accepted}
use Rattle.meaning.specs.Meaning.{map_entry, meaning}
use Rattle.meaning.specs.Refs.{EntryRefs}
use Rattle.meaning.specs.Index.{keys_of, index_of, renumbered, Closed}
use Rattle.meaning.proofs.Alls.{All-both, All-map}
use Rattle.meaning.proofs.Refs.{entry_then}
use Rattle.meaning.proofs.Indexes.{index_range, length-renumbered, meaning-renumbered}
use Rattle.meaning.proofs.Maps.{itself}
use Rattle.meaning.specs.Normal.Size.{plain_length}
use Rattle.meaning.specs.Normal.Minor.{new_entry, minor_of}
use Rattle.meaning.specs.Normal.Normal.{normal_header, plain_bytes, plain_form, normal_typelib}
use Rattle.meaning.specs.Normal.Ranged.{RangedEntry}
use Rattle.meaning.specs.Normal.Encodable.{Sound, PlainEncodable, PlainReadable}
use Rattle.meaning.proofs.Normal.Lengths.{length_plain}
use Rattle.meaning.proofs.Normal.Files.{file_shows, directory_none, directory_at_lem, header_count, header_pool, length_parts}
use Rattle.meaning.proofs.Normal.Minors.{minor_range, minor_serves, header_minor}
use Rattle.meaning.proofs.Normal.Small.{file_Bytes}
use Rattle.meaning.proofs.Normal.Mapped.{plain_length_lem, header_mapped, plain_file_lem}
use Rattle.meaning.proofs.Normal.Ranges.{ranged_entry}
use Rattle.meaning.proofs.Normal.Apart.{EntryApart-obeys}

-- ---- entries each sound, with no reference to a key that is not there

module _ (us : List (Entry Key)) (each : All Sound us) (closed : Closed us) where
  abbrev ix : Key → ℕ
  ix = index_of (keys_of us)

  abbrev Among : Key → Type 0
  Among k = ix k ≤ length us

  abbrev There : Key → Type 0
  There k = InDirectory (length us) (ix k)

  sound_rules : All (EntryRule (minor_of us) (length us)) (renumbered us)
  unfolding renumbered
  sound_rules =
      All-map (map_entry ix) Good (EntryRule (minor_of us) (length us))
      (λ u f. EntryApart-obeys ix (minor_of us) (length us) (minor_range us).0 u f.0.0.rule (entry_then Among There (λ k l. ((index_range (keys_of us) k).0, l)) u f.0.1) f.1) us
      (All-both Known Served Good (λ u a b. (a, b)) us (All-both Sound (EntryRefs Among) Known (λ u a b. (a, b)) us each closed) (minor_serves us))
    where
      Known : Entry Key → Type 0
      Known u = Sound u × EntryRefs Among u

      Served : Entry Key → Type 0
      Served u = new_entry u ≡ true → 2 ≤ minor_of us

      Good : Entry Key → Type 0
      Good u = Known u × Served u

  pub ranged_renumbered : All RangedEntry (renumbered us)
  unfolding renumbered
  ranged_renumbered = All-map (map_entry ix) Sound RangedEntry (λ u f. rw (ranged_entry ix u) f.ranged) us each

  pub rules_renumbered : All (EntryRule (minor_of us) (length (renumbered us))) (renumbered us)
  rules_renumbered = subst (λ (n : ℕ). All (EntryRule (minor_of us) n) (renumbered us)) (sym (length-renumbered us)) sound_rules

-- what shows the entries numbered anew shows the typelib
pub shows_renumbered : (us : List (Entry Key)) (s : List ℕ) → ShowsTypelib s (typelib (normal_header (renumbered us)) (empty ∷ []) (renumbered us)) → ShowsTypelib s (normal_typelib us)
unfolding normal_typelib renumbered
shows_renumbered us s h = subst (λ (x : Header). ShowsTypelib s (typelib x (empty ∷ []) (renumbered us))) (header_mapped (index_of (keys_of us)) us) h

-- ---- bytes that show them, directory and pool where the normal form has them

-- one empty annotation
one_note : NotesRule (empty ∷ [])
one_note = record { some = omega arith }

module _ (us : List (Entry Key)) (len : ℕ) (few : length us ≤ 1024) (short : len ≤ 1048576) (room : 36 + 28 * length us ≤ len) where
  position_for : PositionRule len (normal_header us)
  position_for =
      let count = header_count us in
      let pool = header_pool us in
      record {
        short = omega arith;
        few = omega arith;
        known = omega (arith, header_minor us, (minor_range us).1);
        low = omega arith;
        inside = omega arith;
        absent = λ z. directory_none us (omega arith);
        placed = λ z. let e = directory_at_lem us (λ q. z (omega arith)) in (rw e refl, omega arith, omega arith);
      }

  -- are accepted with them, where they stand in the order of a directory, no key is there twice and every parent chain ends
  pub shown_read : All Sound us → Closed us → InOrder (renumbered us) → UniqueKeys (renumbered us) → NoCycle (renumbered us)
      → (s : List ℕ) → length s ≡ len → Bytes s → ShowsTypelib s (normal_typelib us) → decode s ≡ got (normal_typelib us) (length s)
  unfolding normal_typelib
  shown_read each closed order keys chains s long bytes shows = shown_accepted s bytes (normal_typelib us) shows (
    rw long position_for,
    one_note,
    rw (header_minor us, header_count us) (record { each = sound_rules us each closed; order = order; keys = keys; chains = chains }),
  )

-- ---- what is written

module _ (us : List (Entry Key)) (enc : PlainEncodable us) where
  short_renumbered : plain_length (renumbered us) ≤ 1048576
  unfolding renumbered
  short_renumbered = rw (plain_length_lem (index_of (keys_of us)) us) enc.short

  -- its bytes show the entries
  pub shows_plain : ShowsTypelib (plain_form us) (normal_typelib us)
  shows_plain =
      let few : length (renumbered us) ≤ 1024 = rw (length-renumbered us) enc.few in
      rw (plain_file_lem us) (shows_renumbered us (plain_bytes itself (renumbered us))
      (file_shows (renumbered us) few short_renumbered (minor_of us) (ranged_renumbered us enc.each enc.closed) (rules_renumbered us enc.each enc.closed)))

  pub Bytes-plain : Bytes (plain_form us)
  Bytes-plain = rw (plain_file_lem us) (file_Bytes (renumbered us) (minor_of us) (ranged_renumbered us enc.each enc.closed) (rules_renumbered us enc.each enc.closed))

-- ---- and read

module _ (us : List (Entry Key)) (r : PlainReadable us) where
  pub read_plain : decode (plain_form us) ≡ got (normal_typelib us) (length (plain_form us))
  read_plain =
      let enc = r.encodable in
      shown_read us (plain_length us) enc.few enc.short (omega (arith, length_parts us)) enc.each enc.closed r.order r.keys r.chains
      (plain_form us) (length_plain us) (Bytes-plain us enc) (shows_plain us enc)

  -- with the meaning it was written for
  pub means_plain : meaning (entries_in (normal_typelib us)) ≡ us
  unfolding normal_typelib entries_in
  means_plain = meaning-renumbered us r.encodable.closed

-- the meaning of what was read
meaning_read : Got Typelib → List (Entry Key)
meaning_read (got t e) = meaning (entries_in t)
meaning_read (bad n q) = []

-- a file has one meaning
pub one_meaning_lem : (a b : List ℕ) (s t : Typelib) (m n : ℕ) → decode a ≡ got s m → decode b ≡ got t n → a ≡ b → meaning (entries_in s) ≡ meaning (entries_in t)
unfolding meaning_read
one_meaning_lem a b s t m n x y e = sym (ap meaning_read x) ∙ ap (λ (c : List ℕ). meaning_read (decode c)) e ∙ ap meaning_read y
