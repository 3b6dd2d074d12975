-- One file and two are answered as a link is.
-- Assumes nothing.
use Rattle.std.specs.Prelude.{Err, Ok, Result, ℕ}
use mathlib.Core.Path.{◌≡◌, refl, sym, ap, ◌∙◌}
use mathlib.Core.List.{List}
use Prim.Native.Nat.{ℕ}
use native.Mathlib.Omega.{arith}
use lib.ListN.{length, take}
use lib.Seq.{sets}
use Rattle.number.proofs.Choice.{is_lt, is_eq, no_eq}
use Rattle.decimal.proofs.Stores.{front}
use Rattle.reading.specs.Got.{Got, got, bad}
use Rattle.reader.specs.Values.{Typelib}
use Rattle.reader.specs.Reader.{decode}
use Rattle.joining.specs.Outcome.{Outcome, refused, written, in_room, after}
use Rattle.link.specs.declared.Which.TheVariants.{First}
use Rattle.link.specs.declared.LinkRefusal.{LinkRefusal}
use Rattle.link.specs.Outcome.{refusal_of, link_of, linked_as, link_answer, link_buffer}
use Rattle.link.specs.Demand.{Buffer}
use Rattle.link.proofs.Buffers.{link_stopped}
use Rattle.pile.specs.declared.Pile.{Pile}
use Rattle.pile.specs.declared.Added.{Added}
use Rattle.pile.specs.declared.Added.TheVariants.{Grown, Refused}
use Rattle.pile.specs.Pile.{empty_file, no_files, whole_of, whole_in, more_answer, more_buffer, link_count, grown_as, Turn, turn, answer_in, second_in, added, ended, onward, add_all, piled}
use Rattle.pile.specs.Claim.{first_link, LinksTo, AsLinks}
use Rattle.pile.proofs.Faces.{kept_in, more_first, put_next}
use Rattle.pile.proofs.Turns.{added_even, added_odd, added-Stands, accepted_short, ended_alone}

-- the pile of one file
abbrev one_file : List ℕ → Pile
one_file f = record { files = 1; length = length f }

grown_first : (f : List ℕ) (r : Result ℕ LinkRefusal) → grown_as (one_file f) r ≡ first_link r
unfolding grown_as first_link link_count
grown_first f (Ok n) = refl
grown_first f (Err x) = ap (λ (s : ℕ). Refused (record { why = x; step = s })) (sym (no_eq _ _ _ _ (λ e. omega arith) refl))

module _ (f one other : List ℕ) (r : Buffer one) (q : Buffer other) where
  -- after the first file
  abbrev kept : Turn
  kept = added no_files f one other

  kept_by : (o : Outcome LinkRefusal) → whole_in (length one) f ≡ o → kept ≡ turn (grown_as no_files (linked_as o)) (after o one) other
  unfolding no_files more_answer more_buffer
  kept_by o e =
      added_even no_files f one other (omega arith) refl
      ∙ ap (λ (x : Outcome LinkRefusal). turn (grown_as no_files (linked_as x)) (after x one) other) (more_first no_files other f (length one) refl ∙ e)

  -- a file that is accepted is kept
  kept_whole : (t : Typelib) (e : ℕ) → decode f ≡ got t e → kept ≡ turn (Grown (one_file f)) (sets one 0 f) other
  unfolding no_files grown_as linked_as after
  kept_whole t e d = kept_by (written f) (kept_in f (t, e, d) one (omega (arith, r, accepted_short f t e d)))

  -- one that is not is refused as a first file
  kept_not : (n p : ℕ) → decode f ≡ bad n p → kept ≡ turn (Refused (record { why = refusal_of First n p; step = 1 })) one other
  unfolding no_files grown_as linked_as after link_count whole_in whole_of in_room
  kept_not n p d =
      kept_by (refused (refusal_of First n p)) (rw d refl)
      ∙ ap (λ (s : ℕ). turn (Refused (record { why = refusal_of First n p; step = s })) one other) (sym (is_eq _ _ _ _ refl refl))

  module _ (g : List ℕ) where
    whole_links : (t : Typelib) (e : ℕ) → decode f ≡ got t e → onward (λ p. added p g) kept ≡ turn (first_link (link_answer f g other)) (sets one 0 f) (link_buffer f g other)
    unfolding onward
    whole_links t e d =
        let held : take (length f) (sets one 0 f) ≡ f = front one f (omega (arith, r, accepted_short f t e d)) in
        let more = put_next (one_file f) (sets one 0 f) g other (λ z. omega arith) (ap (λ (h : List ℕ). link_answer h g other) (sym held)) (ap (λ (h : List ℕ). link_buffer h g other) (sym held)) in
        ap (onward (λ p. added p g)) (kept_whole t e d)
        ∙ added_odd (one_file f) g (sets one 0 f) other (omega arith) refl
        ∙ (λ i. turn (grown_as (one_file f) (sym more.0 i)) (sets one 0 f) (sym more.1 i))
        ∙ ap (λ (a : Added). turn a (sets one 0 f) (link_buffer f g other)) (grown_first f (link_answer f g other))

    second_links : LinksTo (onward (λ p. added p g) kept) f g other
    unfolding answer_in second_in
    second_links = go (decode f) refl
      where
        go : (x : Got Typelib) → decode f ≡ x → LinksTo (onward (λ p. added p g) kept) f g other
        go (got t e) d = rw (whole_links t e d) (refl, refl)
        go (bad n p) d =
            let o : link_of (decode f) (decode g) ≡ refused (refusal_of First n p) = unfold link_of in rw d refl in
            let s = link_stopped f g other (refusal_of First n p) o in
            let k : onward (λ p. added p g) kept ≡ turn (Refused (record { why = refusal_of First n p; step = 1 })) one other = ap (onward (λ p. added p g)) (kept_not n p d) ∙ (unfold onward in refl) in
            rw (k, s.0, s.1) (unfold first_link in refl, refl)

  single_links : LinksTo (onward ended kept) f empty_file other
  unfolding no_files
  single_links = rw (ended_alone 1 kept (added-Stands no_files f one other (omega arith) r q) (omega arith)) (second_links empty_file)

ended_first : (l : Result ℕ LinkRefusal) (one other : List ℕ) → onward ended (turn (first_link l) one other) ≡ turn (first_link l) one other
unfolding onward ended first_link
ended_first (Ok n) one other = sym (is_lt _ _ _ _ (omega arith) refl)
ended_first (Err x) one other = refl

ended_links : (t : Turn) (a b out : List ℕ) → LinksTo t a b out → LinksTo (onward ended t) a b out
unfolding answer_in second_in
ended_links (turn r one other) a b out h =
    let e : onward ended (turn r one other) ≡ turn (first_link (link_answer a b out)) one other = ap (λ (x : Added). onward ended (turn x one other)) h.0 ∙ ended_first (link_answer a b out) one other in
    rw e (refl, h.1)

pub as_links : AsLinks
unfolding piled add_all onward
as_links = record {
  two = λ a b one other r q. ended_links (onward (λ p. added p b) (added no_files a one other)) a b other (second_links a one other r q b);
  single = λ a one other r q. single_links a one other r q;
}
