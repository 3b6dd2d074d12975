-- What salvaging writes and reports, as one claim.
-- Assumes nothing.
use mathlib.Core.Path.{◌≡◌, refl, sym, ap, ◌∙◌}
use mathlib.Core.Bool.{Bool, true, false}
use mathlib.Core.Logic.{◌↔◌}
use mathlib.Core.List.{List, []}
use Prim.Native.Nat.{ℕ, ◌≤◌}
use native.Mathlib.Omega.{arith}
use lib.ListN.{length}
use Rattle.number.specs.Choice.{when◌then◌else◌}
use Rattle.reading.specs.Got.{Got, got, bad, Accepted}
use Rattle.reading.specs.declared.Refusal.{Refusal}
use Rattle.reading.proofs.Passes.{pass_false}
use Rattle.reader.specs.Values.{Typelib, entries_in}
use Rattle.reader.specs.Records.{Bytes}
use Rattle.reader.specs.Reader.{decode}
use Rattle.meaning.specs.Meaning.{meaning}
use Rattle.meaning.specs.Facts.Link.{normal_entries}
use Rattle.meaning.specs.Stock.Uses.{normal_length}
use Rattle.joining.specs.Outcome.{Outcome, refused, written, refusal, encoded, in_room}
use Rattle.link.specs.Outcome.{normal_of, normalise_in}
use Rattle.link.specs.Demand.{Means}
use Rattle.link.proofs.Buffers.{room_written}
use Rattle.link.proofs.Theorems.{reads_back}
use Rattle.mend.specs.Left.{Report, Left, left, read_left}
use Rattle.mend.specs.Cleared.{cleared}
use Rattle.mend.proofs.Mends.{mends, cleared-Bytes}
use Rattle.salvage.specs.Salvage.{too_short, in_lists, salvage_of, reports_in, Lent, room_in, outcome_of}
use Rattle.salvage.specs.Claim.{Written, SalvageClaim}
use Rattle.salvage.proofs.Outcomes.{read_decoded, decoded_read}

accepted : (s : List ℕ) → Bytes s → (t : Typelib) (e : ℕ) → (decode s ≡ got t e) ↔ (read_left s ≡ got (left t []) e)
accepted s b t e = (λ h. (mends.accepted s t e).0 (decoded_read s b t e h), λ h. read_decoded s b t e ((mends.accepted s t e).1 h))

normal_is : (t : Typelib) (e : ℕ) → normal_of (got t e) ≡ encoded refusal (normal_entries normal_length (meaning (entries_in t)))
unfolding normal_of
normal_is t e = refl

as_normal_lem : (s : List ℕ) → Bytes s → Accepted (decode s) → (l : Lent) → (outcome_of s l ≡ in_lists (room_in l) (normalise_in (length l.out) s)) × (reports_in (read_left s) ≡ [])
unfolding outcome_of salvage_of normalise_in reports_in room_in
as_normal_lem s b a l =
    let h : read_left s ≡ got (left a.0 []) a.1 = (accepted s b a.0 a.1).0 a.2 in
    (ap (salvage_of (room_in l)) h ∙ sym (ap (λ (g : Got Typelib). in_lists (room_in l) (in_room refusal (length l.out) (normal_of g))) a.2 ∙ ap (λ (o : Outcome Refusal). in_lists (room_in l) (in_room refusal (length l.out) o)) (normal_is a.0 a.1)), ap reports_in h)

-- ---- what is written

clash_written : (x : Refusal) (b : List ℕ) → refused x ≡ written b → ⊥
clash_written x b e = let z : ◌≡◌ {A = ℕ} 0 1 = cc in omega arith

from_if : (t : Bool) (x : Refusal) (o : Outcome Refusal) (b : List ℕ) → (when t then refused x else o) ≡ written b → o ≡ written b
unfolding when◌then◌else◌
from_if true x o b e = absurd (clash_written x b e)
from_if false x o b e = e

from_lists : (l : Lent) (o : Outcome Refusal) (b : List ℕ) → in_lists (room_in l) o ≡ written b → o ≡ written b
unfolding in_lists
from_lists l o b e = from_if _ _ o b e

from_room : (room : ℕ) (o : Outcome Refusal) (b : List ℕ) → in_room refusal room o ≡ written b → o ≡ written b
unfolding in_room
from_room room (refused x) b e = e
from_room room (written c) b e = from_if _ _ (written c) b e

left-written : (s b : List ℕ) → Bytes s → (l : Lent) (t : Typelib) (rs : List Report) (e : ℕ) → read_left s ≡ got (left t rs) e → salvage_of (room_in l) (got (left t rs) e) ≡ written b → Written s b
unfolding salvage_of room_in
left-written s b small l t rs e h w =
    let bytes = cleared-Bytes s t rs e h small in
    let d : decode (cleared s rs) ≡ got t (length s) = read_decoded (cleared s rs) bytes t (length s) (mends.accepts s t rs e h) in
    let n : normal_of (decode (cleared s rs)) ≡ written b = ap normal_of d ∙ normal_is t (length s) ∙ from_room (length l.out) _ b (from_lists l _ b w) in
    let m : Means (cleared s rs) (meaning (entries_in t)) = record { bytes = bytes; typelib = t; end = length s; decoded = d; meant = refl } in
    record {
      typelib = t;
      reports = rs;
      end = e;
      left_is = h;
      changed = mends.changed s t rs e h;
      normal = n;
      form = reads_back.form (cleared s rs) b (meaning (entries_in t)) m n;
      means = reads_back.same (cleared s rs) (meaning (entries_in t)) m;
    }

writes : (s b : List ℕ) → Bytes s → (l : Lent) → outcome_of s l ≡ written b → Written s b
unfolding outcome_of salvage_of
writes s b small l = go (read_left s) refl
  where
    go : (g : Got Left) → read_left s ≡ g → salvage_of (room_in l) g ≡ written b → Written s b
    go (bad n q) h e = absurd (clash_written _ b e)
    go (got (left t rs) e) h w = left-written s b small l t rs e h w

again : (s b : List ℕ) → Bytes s → (l m : Lent) → outcome_of s l ≡ written b
    → too_short (length m.indexes) (length m.numbers) (length m.places) ≡ false → length b ≤ length m.out
    → (outcome_of b m ≡ written b) × (reports_in (read_left b) ≡ [])
unfolding in_lists room_in normalise_in
again s b small l m e long fits =
    let f = (writes s b small l e).form in
    let r = as_normal_lem b f.means.bytes (f.means.typelib, f.means.end, f.means.decoded) m in
    (r.0 ∙ pass_false _ _ _ long (room_written refusal m.out (normal_of (decode b)) b f.own fits), r.1)

pub salvage_claim : SalvageClaim
salvage_claim = record { accepted = accepted; as_normal = as_normal_lem; writes = writes; again = again }
