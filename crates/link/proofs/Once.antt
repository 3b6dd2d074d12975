-- What storing each name once promises holds.
-- Assumes nothing.
use mathlib.Core.Path.{refl, sym, ap, ◌∙◌}
use mathlib.Core.List.{List}
use Prim.Native.Nat.{ℕ, ◌≤◌}
use native.Mathlib.Omega.{arith}
use lib.ListN.{length}
use Rattle.number.specs.Limits.{file_limit}
use Rattle.key.specs.Key.{Key}
use Rattle.reader.specs.Values.{Entry}
use Rattle.meaning.specs.Facts.Union.{union}
use Rattle.meaning.proofs.Facts.Valids.{valid_Agree}
use Rattle.meaning.proofs.Facts.Closed.{Valid-few}
use Rattle.meaning.proofs.Facts.Algebra.{union-Valid, union_again, Closed-Valid, normal_exactly}
use Rattle.meaning.specs.Normal.Size.{plain_length}
use Rattle.meaning.specs.Normal.Normal.{plain_form, normal_typelib}
use Rattle.meaning.specs.Normal.Encodable.{PlainReadable}
use Rattle.meaning.proofs.Normal.Lengths.{length_plain}
use Rattle.meaning.proofs.Normal.Back.{Bytes-plain, read_plain, means_plain}
use Rattle.meaning.specs.Stock.Uses.{normal_length}
use Rattle.meaning.proofs.Stock.Grows.{once_shorter, normal_Grows}
use Rattle.meaning.proofs.Stock.Lengths.{length_normal}
use Rattle.meaning.proofs.Stock.Plain.{plain_same}
use Rattle.meaning.proofs.Stock.Leads.{shared}
use Rattle.meaning.proofs.Stock.Back.{plain_readable}
use Rattle.joining.specs.Outcome.{refusal, encoded}
use Rattle.link.specs.Demand.{Means}
use Rattle.link.specs.Theorems.{Shortened, OnceForms}
use Rattle.link.proofs.Files.{accepted_Valid, accepted_Sound, normal_of_lem, form_Means}
use Rattle.link.proofs.Sounds.{Sound-union}
use Rattle.link.proofs.Unions.{valid_standing}

plain_Means : (us : List (Entry Key)) → PlainReadable us → Means (plain_form us) us
plain_Means us r = record { bytes = Bytes-plain us r.encodable; typelib = normal_typelib us; end = length (plain_form us); decoded = read_plain us r; meant = sym (means_plain us r) }

module _ (a : List ℕ) (A : List (Entry Key)) (m : Means a A) (short : plain_length (union A) ≤ file_limit) where
  union_plain : PlainReadable (union A)
  union_plain =
      let v = accepted_Valid a A m in
      let c = Closed-Valid A v in
      let u = union-Valid A (valid_Agree A v) c (Valid-few A v) in
      let o = valid_standing (union A) u (union_again A (valid_Agree A v)) in
      record { encodable = record { few = u.few; short = short; each = Sound-union A (accepted_Sound a A m) c; closed = o.0 }; order = o.1; keys = o.2; chains = o.3 }

  shortened : Shortened a A
  unfolding encoded
  shortened = record {
    exists = normal_of_lem a A m ∙ ap (encoded refusal) ((normal_exactly normal_length A (union A)).1 ((λ g. omega (arith, g, short, once_shorter (union A))), refl));
    shorter = omega (arith, length_normal (union A), length_plain (union A), once_shorter (union A));
    normal = form_Means (union A) (plain_readable (union A) union_plain);
    plain = plain_Means (union A) union_plain;
  }

pub once_forms : OnceForms
once_forms = record { exists = shortened; shorter = λ us. omega (arith, length_normal us, length_plain us, once_shorter us); sized = length_plain; plain = plain_same; shared = λ us u v. shared us u v; grows = normal_Grows }
