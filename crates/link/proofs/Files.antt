-- What the meaning of an accepted file has: what the algebra asks of its entries, and what the normal form asks of each.
-- Assumes nothing.
use mathlib.Core.Path.{◌≡◌, refl, sym, ap, ◌∙◌, subst}
use mathlib.Core.List.{List}
use Prim.Native.Nat.{ℕ}
use native.Mathlib.Omega.{arith}
use lib.ListN.{length}
use Rattle.reading.specs.Got.{got}
use Rattle.key.specs.Key.{Key}
use Rattle.reader.specs.Values.{Typelib, typelib, entries_in, Entry}
use Rattle.reader.specs.Rules.{All, EntriesRule}
use Rattle.reader.specs.Reader.{decode}
use Rattle.reader.specs.Reader.Laws.{accepted_shows, accepted_obeys}
use Rattle.meaning.specs.Meaning.{meaning}
use Rattle.meaning.specs.Index.{Closed}
use Rattle.meaning.specs.Facts.Valid.{Valid}
use Rattle.meaning.specs.Facts.Link.{link_entries, normal_entries}
use Rattle.meaning.specs.Normal.Normal.{normal_typelib}
use Rattle.meaning.specs.Normal.Encodable.{Sound}
use Rattle.meaning.proofs.Normal.Accepted as normal
use Rattle.meaning.specs.Stock.Uses.{normal_length}
use Rattle.meaning.specs.Stock.Form.{normal_form}
use Rattle.meaning.specs.Stock.Readable.{Readable}
use Rattle.meaning.proofs.Stock.Back.{Bytes-back, read_back, means_back}
use Rattle.bridge.proofs.Valids.{meaning-Valid}
use Rattle.link.specs.declared.Which.TheVariants.{Union}
use Rattle.joining.specs.Outcome.{refusal, encoded}
use Rattle.link.specs.Outcome.{refusal_of, normal_of, link_of}
use Rattle.link.specs.Demand.{Means}

pub decoded_Valid : (s : List ℕ) (t : Typelib) (e : ℕ) → decode s ≡ got t e → Valid (meaning (entries_in t))
unfolding entries_in
decoded_Valid s (typelib h notes es) e d =
    let count : length es ≡ h.count = (accepted_shows s d).2.count in
    let rules = accepted_obeys s d in
    meaning-Valid h.minor es (subst (λ (n : ℕ). EntriesRule h.minor n es) (sym count) rules.2) (omega (arith, rules.0.few))

module _ (a : List ℕ) (A : List (Entry Key)) (m : Means a A) where
  pub accepted_Valid : Valid A
  accepted_Valid = rw m.meant (decoded_Valid a m.typelib m.end m.decoded)

  pub accepted_Sound : All Sound A
  accepted_Sound = rw m.meant (normal.accepted_Sound a m.bytes m.typelib m.decoded).0

  -- every reference is the key of an entry
  pub accepted_Closed : Closed A
  accepted_Closed = rw m.meant (normal.accepted_Sound a m.bytes m.typelib m.decoded).1

  -- normalised
  pub normal_of_lem : normal_of (decode a) ≡ encoded refusal (normal_entries normal_length A)
  unfolding normal_of
  normal_of_lem = ap normal_of m.decoded ∙ ap (λ (es : List (Entry Key)). encoded refusal (normal_entries normal_length es)) (sym m.meant)

  -- linked with another
  pub link_of_lem : (b : List ℕ) (B : List (Entry Key)) → Means b B → link_of (decode a) (decode b) ≡ encoded (refusal_of Union) (link_entries normal_length A B)
  unfolding link_of
  link_of_lem b B n = rw (m.decoded, n.decoded, m.meant, n.meant) refl

-- a normal form is an accepted file that means what it was written for
pub form_Means : (us : List (Entry Key)) → Readable us → Means (normal_form us) us
form_Means us r = record { bytes = Bytes-back us r; typelib = normal_typelib us; end = length (normal_form us); decoded = read_back us r; meant = sym (means_back us r) }
