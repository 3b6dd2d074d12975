-- Answers and buffers from what the entries of two files join to.
-- Assumes nothing.
use Rattle.std.specs.Prelude.{ℕ, Err, Ok, Result}
use mathlib.Core.Path.{◌≡◌, refl, sym, ap, ◌∙◌}
use mathlib.Core.List.{List, ◌++◌}
use mathlib.Core.Option.{Option, none, some}
use Prim.Native.Nat.{ℕ, ◌≤◌}
use native.Mathlib.Omega.{arith}
use lib.ListN.{length}
use lib.Seq.{sets}
use Rattle.number.proofs.Choice.{no_lt}
use Rattle.decimal.proofs.Stores.{front}
use Rattle.reading.specs.declared.Refusal.{Refusal}
use Rattle.key.specs.Key.{Key}
use Rattle.reader.specs.Values.{Entry}
use Rattle.meaning.specs.Facts.Link.{Linked, stopped, joined, link_entries, normal_entries, number_only, joined_of, and_then}
use Rattle.meaning.proofs.Facts.Links.{stopped_equal, joined_equal, not_both}
use Rattle.meaning.proofs.Facts.Algebra.{joined_exactly, normal_exactly, Closed-Valid, Closed-both}
use Rattle.meaning.specs.Stock.Uses.{normal_length}
use Rattle.meaning.specs.Stock.Form.{normal_form}
use Rattle.meaning.specs.Stock.Readable.{Readable}
use Rattle.meaning.proofs.Stock.Lengths.{length_normal}
use Rattle.link.specs.declared.Which.TheVariants.{Union}
use Rattle.link.specs.declared.LinkRefusal.{LinkRefusal}
use Rattle.joining.specs.Outcome.{Outcome, refusal, encoded, in_room, after, normalised_as}
use Rattle.link.specs.Outcome.{refusal_of, normalise_in, normalise_answer, normalise_buffer, link_in, linked_as, link_answer, link_buffer}
use Rattle.link.specs.Demand.{Means, Buffer, left_in, left_by, placeless, as_link}
use Rattle.link.proofs.Files.{accepted_Valid, accepted_Sound, normal_of_lem, link_of_lem, form_Means}
use Rattle.link.proofs.Unions.{Fine-Readable, Valid-Fine, Sound-both}

-- what a link that ended so answers, and leaves in its buffer
abbrev pub answer_of : Linked → Result ℕ LinkRefusal
answer_of r = linked_as (encoded (refusal_of Union) r)

abbrev pub buffer_of : Linked → List ℕ → List ℕ
buffer_of r out = after (encoded (refusal_of Union) r) out

-- what was joined fits
abbrev Fits : ℕ → Linked → Type 0
Fits room r = (U : List (Entry Key)) → r ≡ joined U → normal_length U ≤ room

-- so 27 does not apply
in_room_lem : {X : Type 0} (stop : ℕ → ℕ → X) (room : ℕ) (r : Linked) → Fits room r → in_room stop room (encoded stop r) ≡ encoded stop r
unfolding in_room encoded
in_room_lem stop room (stopped n q) f = refl
in_room_lem stop room (joined U) f = sym (no_lt _ _ _ _ (omega (arith, length_normal U, f U refl)) refl)

-- ---- two files

module _ (a : List ℕ) (A : List (Entry Key)) (m : Means a A) where
  pub normal_Readable : (U : List (Entry Key)) → normal_entries normal_length A ≡ joined U → Readable U
  normal_Readable U e =
      let r = (normal_exactly normal_length A U).0 e in
      let v = accepted_Valid a A m in
      rw r.1 (Fine-Readable A (accepted_Sound a A m) (Closed-Valid A v) (Valid-Fine A v r.0))

  module _ (out : List ℕ) (w : Buffer out) where
    normal_in : normalise_in (length out) a ≡ encoded refusal (normal_entries normal_length A)
    unfolding normalise_in
    normal_in =
        ap (in_room refusal (length out)) (normal_of_lem a A m)
        ∙ in_room_lem refusal (length out) (normal_entries normal_length A) (λ U e. omega (arith, w, (normal_Readable U e).short))

    pub normal_answer : normalise_answer a out ≡ normalised_as (encoded refusal (normal_entries normal_length A))
    unfolding normalise_answer
    normal_answer = ap normalised_as normal_in

    pub normal_buffer : normalise_buffer a out ≡ after (encoded refusal (normal_entries normal_length A)) out
    unfolding normalise_buffer
    normal_buffer = ap (λ (o : Outcome Refusal). after o out) normal_in

  module _ (b : List ℕ) (B : List (Entry Key)) (n : Means b B) where
    pub link_Readable : (U : List (Entry Key)) → link_entries normal_length A B ≡ joined U → Readable U
    link_Readable U e =
        let v = accepted_Valid a A m in
        let w = accepted_Valid b B n in
        let r = (joined_exactly normal_length A B w U).0 e in
        rw r.1 (Fine-Readable (A ++ B) (Sound-both A B (accepted_Sound a A m) (accepted_Sound b B n)) (Closed-both A B (Closed-Valid A v) (Closed-Valid B w)) r.0)

    module _ (out : List ℕ) (w : Buffer out) where
      link_in_lem : link_in (length out) a b ≡ encoded (refusal_of Union) (link_entries normal_length A B)
      unfolding link_in
      link_in_lem =
          ap (in_room (refusal_of Union) (length out)) (link_of_lem a A m b B n)
          ∙ in_room_lem (refusal_of Union) (length out) (link_entries normal_length A B) (λ U e. omega (arith, w, (link_Readable U e).short))

      pub link_answer_lem : link_answer a b out ≡ answer_of (link_entries normal_length A B)
      unfolding link_answer
      link_answer_lem = ap linked_as link_in_lem

      pub link_buffer_lem : link_buffer a b out ≡ buffer_of (link_entries normal_length A B) out
      unfolding link_buffer
      link_buffer_lem = ap (λ (o : Outcome LinkRefusal). after o out) link_in_lem

-- ---- swapped

pub placeless_same : (r s : Linked) → number_only r ≡ number_only s → placeless (answer_of r) ≡ placeless (answer_of s)
unfolding number_only placeless linked_as encoded refusal_of refusal
placeless_same (stopped n q) (stopped k p) e = ap (λ (x : ℕ × ℕ). Err (refusal_of Union x.0 0)) (stopped_equal e)
placeless_same (stopped n q) (joined U) e = not_both e
placeless_same (joined U) (stopped k p) e = not_both (sym e)
placeless_same (joined U) (joined W) e = ap (λ (us : List (Entry Key)). Ok (length (normal_form us))) (joined_equal e)

pub joined_same : (r s : Linked) → number_only r ≡ number_only s → joined_of r ≡ joined_of s
unfolding number_only joined_of
joined_same (stopped n q) (stopped k p) e = refl
joined_same (stopped n q) (joined U) e = not_both e
joined_same (joined U) (stopped k p) e = not_both (sym e)
joined_same (joined U) (joined W) e = ap (λ (us : List (Entry Key)). some us) (joined_equal e)

pub buffer_same : (r s : Linked) (out : List ℕ) → number_only r ≡ number_only s → buffer_of r out ≡ buffer_of s out
unfolding number_only after encoded
buffer_same (stopped n q) (stopped k p) out e = refl
buffer_same (stopped n q) (joined U) out e = not_both e
buffer_same (joined U) (stopped k p) out e = not_both (sym e)
buffer_same (joined U) (joined W) out e = ap (λ (us : List (Entry Key)). sets out 0 (normal_form us)) (joined_equal e)

-- ---- as normalising does

pub as_normal_lem : (r : Linked) → answer_of r ≡ as_link (normalised_as (encoded refusal r))
unfolding as_link linked_as normalised_as encoded refusal_of
as_normal_lem (stopped n q) = refl
as_normal_lem (joined U) = refl

pub normal_same : (r : Linked) (out : List ℕ) → buffer_of r out ≡ after (encoded refusal r) out
unfolding after encoded
normal_same (stopped n q) out = refl
normal_same (joined U) out = refl

-- ---- what a second link gets

-- the normal form of what was joined
abbrev pub form_of : Option (List (Entry Key)) → Option (List ℕ)
form_of none = none
form_of (some us) = some (normal_form us)

left_form : (r : Linked) (out : List ℕ) → Fits (length out) r → left_in (buffer_of r out) (answer_of r) ≡ form_of (joined_of r)
unfolding left_in linked_as after encoded joined_of
left_form (stopped n q) out f = refl
left_form (joined U) out f = ap (λ (s : List ℕ). some s) (front out (normal_form U) (omega (arith, length_normal U, f U refl)))

module _ (a : List ℕ) (A : List (Entry Key)) (m : Means a A) (b : List ℕ) (B : List (Entry Key)) (n : Means b B) where
  -- a link leaves the normal form of what was joined
  pub left_by_lem : (out : List ℕ) → Buffer out → left_by a b out ≡ form_of (joined_of (link_entries normal_length A B))
  unfolding left_by
  left_by_lem out w =
      (λ i. left_in (link_buffer_lem a A m b B n out w i) (link_answer_lem a A m b B n out w i))
      ∙ left_form (link_entries normal_length A B) out (λ U e. omega (arith, w, (link_Readable a A m b B n U e).short))

  -- and what a second link does with it is what it does with the entries
  pub left_then : (out : List ℕ) → Buffer out → (f : List ℕ → Option (List ℕ)) (g : List (Entry Key) → Option (List (Entry Key)))
      → ((s : List ℕ) (U : List (Entry Key)) → Means s U → f s ≡ form_of (g U)) → and_then (left_by a b out) f ≡ form_of (and_then (joined_of (link_entries normal_length A B)) g)
  unfolding and_then joined_of
  left_then out w f g h = ap (λ (o : Option (List ℕ)). and_then o f) (left_by_lem out w) ∙ go (link_entries normal_length A B) refl
    where
      go : (r : Linked) → link_entries normal_length A B ≡ r → and_then (form_of (joined_of r)) f ≡ form_of (and_then (joined_of r) g)
      go (stopped k q) e = refl
      go (joined U) e = h (normal_form U) U (form_Means U (link_Readable a A m b B n U e))
