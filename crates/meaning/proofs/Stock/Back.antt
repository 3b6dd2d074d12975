-- The normal form reads back.
-- Assumes nothing.
use mathlib.Core.Path.{◌≡◌, sym, ◌∙◌}
use mathlib.Core.List.{List}
use Prim.Native.Nat.{ℕ, ◌+◌, ◌*◌, ◌≤◌}
use native.Mathlib.Omega.{arith}
use lib.ListN.{length, get_or}
use Rattle.key.specs.Key.{Key}
use Rattle.reading.specs.Got.{got}
use Rattle.reader.specs.Values.{Entry, entries_in}
use Rattle.reader.specs.Records.{Bytes, ShowsTypelib}
use Rattle.reader.specs.Reader.{decode}
use Rattle.meaning.specs.Meaning.{meaning}
use Rattle.meaning.specs.Index.{keys_of, index_of, renumbered}
use Rattle.meaning.proofs.Indexes.{length-renumbered, meaning-renumbered}
use Rattle.meaning.proofs.Maps.{itself}
use Rattle.meaning.specs.Normal.Minor.{minor_of}
use Rattle.meaning.specs.Normal.Normal.{header_bytes, normal_typelib}
use Rattle.meaning.specs.Normal.Encodable.{PlainReadable}
use Rattle.meaning.proofs.Normal.From.{From}
use Rattle.meaning.proofs.Normal.Minors.{header_minor}
use Rattle.meaning.proofs.Normal.Back.{ranged_renumbered, rules_renumbered, shows_renumbered, shown_read, one_meaning_lem}
use Rattle.meaning.specs.Stock.Uses.{words_of, at_first, normal_length}
use Rattle.meaning.specs.Stock.Pool.{pieces_of, once_at}
use Rattle.meaning.specs.Stock.Form.{pool_with, length_with, file_with, normal_form}
use Rattle.meaning.specs.Stock.Readable.{Readable}
use Rattle.meaning.proofs.Stock.Grows.{once_shorter}
use Rattle.meaning.proofs.Stock.Pools.{words_pieces, normal_length_lem}
use Rattle.meaning.proofs.Stock.Lengths.{length_normal}
use Rattle.meaning.proofs.Stock.Leads.{LeadsAll, once_led}
use Rattle.meaning.proofs.Stock.Shows.{file_led}
use Rattle.meaning.proofs.Stock.Small.{file_small}
use Rattle.meaning.proofs.Stock.Mapped.{words_mapped, length_mapped, normal_file}

-- the uses of these entries lead to their words
uses_led : (us : List (Entry ℕ)) (pool : List ℕ) → From pool 0 (pool_with itself (once_at (pieces_of us)) (at_first (words_of us)) 0 (pieces_of us)) → LeadsAll pool (once_at (pieces_of us)) 0 (words_of us)
uses_led us pool h = rw (words_pieces us) at (once_led (pieces_of us) itself (once_at (pieces_of us)) pool (rw (← words_pieces us) at h))

room : {R : Type 0} (us : List (Entry R)) → 36 + 28 * length us ≤ normal_length us
unfolding length_with
room us = omega (arith, normal_length_lem us)

module _ (us : List (Entry Key)) (r : Readable us) where
  short_renumbered : length_with (at_first (words_of (renumbered us))) (renumbered us) ≤ 1048576
  unfolding renumbered
  short_renumbered = rw (words_mapped (index_of (keys_of us)) us, length_mapped (index_of (keys_of us)) (at_first (words_of us)) us, normal_length_lem us) r.short

  -- its bytes show the entries
  pub shows_back : ShowsTypelib (normal_form us) (normal_typelib us)
  shows_back =
      let vs = renumbered us in
      let few : length vs ≤ 1024 = rw (length-renumbered us) r.few in
      rw (normal_file us) (shows_renumbered us (file_with itself (once_at (pieces_of vs)) (at_first (words_of vs)) vs)
      (file_led vs (once_at (pieces_of vs)) (at_first (words_of vs)) few short_renumbered (minor_of us) (ranged_renumbered us r.each r.closed) (rules_renumbered us r.each r.closed) (uses_led vs)))

  pub Bytes-back : Bytes (normal_form us)
  Bytes-back =
      let vs = renumbered us in
      rw (normal_file us) (file_small (once_at (pieces_of vs)) (at_first (words_of vs)) vs (minor_of us) (ranged_renumbered us r.each r.closed) (rules_renumbered us r.each r.closed))

  pub read_back : decode (normal_form us) ≡ got (normal_typelib us) (length (normal_form us))
  read_back = shown_read us (normal_length us) r.few r.short (room us) r.each r.closed r.order r.keys r.chains (normal_form us) (length_normal us) Bytes-back shows_back

  -- with the meaning it was written for
  pub means_back : meaning (entries_in (normal_typelib us)) ≡ us
  unfolding normal_typelib entries_in
  means_back = meaning-renumbered us r.closed

-- where the plain form may be written, so may this one
pub plain_readable : (us : List (Entry Key)) → PlainReadable us → Readable us
plain_readable us r =
    let enc = r.encodable in
    record { few = enc.few; short = omega (arith, once_shorter us, enc.short); each = enc.each; closed = enc.closed; order = r.order; keys = r.keys; chains = r.chains }

-- two meanings, each in its order, have the same normal form only where they are equal
pub normal_injective : (us vs : List (Entry Key)) → Readable us → Readable vs → normal_form us ≡ normal_form vs → us ≡ vs
normal_injective us vs r q e = sym (means_back us r) ∙ one_meaning_lem _ _ _ _ _ _ (read_back us r) (read_back vs q) e ∙ means_back vs q

-- its minor stands in byte 17
pub minor_byte : (us : List (Entry Key)) → get_or (normal_form us) 17 0 ≡ minor_of us
unfolding normal_form file_with header_bytes
minor_byte us = header_minor us
