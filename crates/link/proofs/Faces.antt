-- What the functions of this crate give for files, from what their stages give for entries.
-- Assumes nothing.
use Rattle.std.specs.Prelude.{Err, Ok, Result, ℕ}
use mathlib.Core.Path.{◌≡◌, refl, sym, ap, ◌∙◌}
use mathlib.Core.Bool.{Bool, true, false}
use mathlib.Core.List.{List, []}
use Prim.Native.Nat.{ℕ}
use native.Mathlib.Omega.{arith}
use lib.ListN.{length, drop}
use Rattle.number.specs.Choice.{when◌then◌else◌, ◌<?◌}
use Rattle.reading.specs.Got.{Accepted, got}
use Rattle.reading.specs.declared.Refusal.{Refusal}
use Rattle.reader.specs.declared.Layout.{Layout}
use Rattle.reader.specs.Values.{Typelib, entries_in}
use Rattle.reader.specs.Reader.{decode, check_of}
use Rattle.reader.specs.Reader.Laws.{accepted_decodes, refused_decodes}
use Rattle.reader.specs.Layout.{LaidOut}
use Rattle.meaning.specs.Meaning.{meaning}
use Rattle.meaning.specs.Facts.Link as facts
use Rattle.meaning.specs.Facts.Link.{stopped, joined}
use Rattle.meaning.proofs.Facts.Algebra.{with_empty}
use Rattle.meaning.specs.Stock.Uses.{normal_length}
use Rattle.meaning.specs.Stock.Form.{normal_form}
use Rattle.rows.specs.Files.{Pair, HoldBoth, Given}
use Rattle.link.specs.declared.Which.TheVariants.{First, Second, Union}
use Rattle.link.specs.declared.LinkRefusal.{LinkRefusal}
use Rattle.joining.specs.Outcome.{Outcome, refused, written, refusal, encoded, in_room, after, normalised_as}
use Rattle.link.specs.Outcome.{refusal_of, normal_of, normalise_in, normalise_answer, normalise_buffer, link_of, link_in, linked_as, link_answer, link_buffer}
use Rattle.stages.specs.Stages.{link_pair}
use Rattle.joining.specs.Joins.{union_in, Joins}
use Rattle.link.specs.Demand.{as_link}
use Rattle.link.proofs.Files.{decoded_Valid}

-- ---- layouts

-- where a file of no bytes has no entries
abbrev pub no_layout : Layout
no_layout = record { count = 0; directory = 0; pool = 0 }

none_laid : LaidOut [] no_layout []
none_laid = record {
  count = refl;
  few = omega arith;
  small = omega arith;
  inside = omega arith;
  pool_inside = omega arith;
  shown = λ k l. absurd (omega arith);
  minor = 0;
  minor_at = refl;
  ruled = record { each = tt; order = λ i j l k. absurd (omega arith); keys = λ i j l k e. absurd (omega arith); chains = λ i a b l. absurd (omega arith) };
}

-- an accepted file
pub accepted : (s : List ℕ) {n : ℕ} → check_of s ≡ Ok n → Accepted (decode s)
accepted s e = let r = accepted_decodes s e in (r.0, r.1, r.2)

abbrev Laid : List ℕ → Layout → Type 0
Laid s l = (t : Typelib) (e : ℕ) → decode s ≡ got t e → LaidOut s l (entries_in t)

-- ---- answers of a link, from those of normalising

as_link_lem : (o : facts.Linked) (room : ℕ) → as_link (normalised_as (in_room refusal room (encoded refusal o))) ≡ linked_as (in_room (refusal_of Union) room (encoded (refusal_of Union) o))
unfolding as_link normalised_as linked_as in_room encoded refusal_of when◌then◌else◌
as_link_lem (stopped n q) room = refl
as_link_lem (joined us) room = choose (room <? length (normal_form us))
  where
    choose : (t : Bool) → as_link (normalised_as (when t then refused (refusal 27 (length (normal_form us))) else written (normal_form us)))
        ≡ linked_as (when t then refused (refusal_of Union 27 (length (normal_form us))) else written (normal_form us))
    choose true = refl
    choose false = refl

as_buffer : (o : facts.Linked) (room : ℕ) (out : List ℕ) → after (in_room refusal room (encoded refusal o)) out ≡ after (in_room (refusal_of Union) room (encoded (refusal_of Union) o)) out
unfolding after in_room encoded when◌then◌else◌
as_buffer (stopped n q) room out = refl
as_buffer (joined us) room out = choose (room <? length (normal_form us))
  where
    choose : (t : Bool) → after (when t then refused (refusal 27 (length (normal_form us))) else written (normal_form us)) out
        ≡ after (when t then refused (refusal_of Union 27 (length (normal_form us))) else written (normal_form us)) out
    choose true = refl
    choose false = refl

-- ---- refused files

module _ (s : List ℕ) {x : Refusal} (e : check_of s ≡ Err x) where
  pub normal_refused : (out : List ℕ) → (Err x ≡ normalise_answer s out) × (out ≡ normalise_buffer s out)
  unfolding normalise_answer normalise_buffer normalise_in in_room normal_of normalised_as after refusal
  normal_refused out = rw (refused_decodes s e) (refl, refl)

  pub first_refused_lem : (b out : List ℕ) → (Err (record { which = First; why = x }) ≡ link_answer s b out) × (out ≡ link_buffer s b out)
  unfolding link_answer link_buffer link_in in_room link_of linked_as after refusal_of refusal
  first_refused_lem b out = rw (refused_decodes s e) (refl, refl)

  pub second_refused : (a : List ℕ) → Accepted (decode a) → (out : List ℕ) → (Err (record { which = Second; why = x }) ≡ link_answer a s out) × (out ≡ link_buffer a s out)
  unfolding link_answer link_buffer link_in in_room link_of linked_as after refusal_of refusal
  second_refused a m out = rw (m.2, refused_decodes s e) (refl, refl)

-- ---- accepted files

-- a file and one without entries
module _ (s : List ℕ) (l : Layout) (m : Accepted (decode s)) (u : Laid s l) where
  abbrev alone_of : Pair
  alone_of = record { first = entries_in m.0; second = [] }

  alone_held : HoldBoth s (drop l.pool s) l [] [] no_layout alone_of
  alone_held = record { first = record { laid = u m.0 m.1 m.2; behind = refl }; second = record { laid = none_laid; behind = refl } }

  pub alone_Given : Given (HoldBoth s (drop l.pool s) l [] [] no_layout)
  alone_Given = record { value = alone_of; shown = alone_held }

  module _ (out : List ℕ) {r : Result ℕ Refusal} {left : List ℕ} (j : Joins (HoldBoth s (drop l.pool s) l [] [] no_layout) out r left) where
    alone_in : union_in (length out) alone_of ≡ normalise_in (length out) s
    unfolding union_in link_pair normalise_in normal_of meaning
    alone_in = ap (λ (o : facts.Linked). in_room refusal (length out) (encoded refusal o)) (with_empty normal_length (meaning (entries_in m.0)) (decoded_Valid s m.0 m.1 m.2)) ∙ rw m.2 refl

    pub normal_joined : (r ≡ normalise_answer s out) × (left ≡ normalise_buffer s out)
    unfolding normalise_answer normalise_buffer
    normal_joined = (j.answer alone_of alone_held ∙ ap normalised_as alone_in, j.buffer alone_of alone_held ∙ ap (λ (o : Outcome Refusal). after o out) alone_in)

-- the entries of two
module _ (a b : List ℕ) (l k : Layout) (m : Accepted (decode a)) (n : Accepted (decode b)) (u : Laid a l) (v : Laid b k) where
  abbrev pair_of : Pair
  pair_of = record { first = entries_in m.0; second = entries_in n.0 }

  pair_held : HoldBoth a (drop l.pool a) l b (drop k.pool b) k pair_of
  pair_held = record {
    first = record { laid = u m.0 m.1 m.2; behind = refl };
    second = record { laid = v n.0 n.1 n.2; behind = refl };
  }

  pub pair_Given : Given (HoldBoth a (drop l.pool a) l b (drop k.pool b) k)
  pair_Given = record { value = pair_of; shown = pair_held }

  -- a link's answer, from that of its stages
  module _ (out : List ℕ) {r : Result ℕ Refusal} {left : List ℕ} (j : Joins (HoldBoth a (drop l.pool a) l b (drop k.pool b) k) out r left) where
    link_in_lem : link_in (length out) a b ≡ in_room (refusal_of Union) (length out) (encoded (refusal_of Union) (link_pair pair_of))
    unfolding link_in link_of link_pair
    link_in_lem = rw (m.2, n.2) refl

    linked_answer : as_link r ≡ link_answer a b out
    unfolding link_answer union_in
    linked_answer = ap as_link (j.answer pair_of pair_held) ∙ as_link_lem (link_pair pair_of) (length out) ∙ ap linked_as (sym link_in_lem)

    pub linked_written : {n : ℕ} → r ≡ Ok n → Ok n ≡ link_answer a b out
    unfolding as_link
    linked_written e = ap as_link (sym e) ∙ linked_answer

    pub linked_refused : {x : Refusal} → r ≡ Err x → Err (record { which = Union; why = x }) ≡ link_answer a b out
    unfolding as_link
    linked_refused e = ap as_link (sym e) ∙ linked_answer

    pub linked_buffer : left ≡ link_buffer a b out
    unfolding link_buffer union_in
    linked_buffer = j.buffer pair_of pair_held ∙ as_buffer (link_pair pair_of) (length out) out ∙ ap (λ (o : Outcome LinkRefusal). after o out) (sym link_in_lem)
