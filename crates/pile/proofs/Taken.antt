-- Only piles of accepted files end.
-- Assumes nothing.
use mathlib.Core.Path.{◌≡◌, refl, sym, ap, ◌∙◌}
use mathlib.Core.Logic.{inl, inr}
use mathlib.Core.Bool.{Bool, true, false}
use mathlib.Core.List.{List, [], ◌∷◌}
use mathlib.Core.Option.{none, some}
use Prim.Native.Nat.{ℕ, zero, suc}
use native.Mathlib.Omega.{arith}
use lib.ListN.{length, take}
use Rattle.number.specs.Limits.{pile_limit}
use Rattle.number.proofs.Choice.{from_yes_le, from_not_le}
use Rattle.number.specs.Choice.{◌≤?◌}
use Rattle.reading.specs.Got.{Got, got, bad}
use Rattle.key.specs.Key.{Key}
use Rattle.reader.specs.Values.{Typelib, entries_in, Entry}
use Rattle.reader.specs.Records.{Bytes}
use Rattle.reader.specs.Rules.{All}
use Rattle.reader.specs.Reader.{decode}
use Rattle.meaning.specs.Meaning.{meaning}
use Rattle.meaning.proofs.Facts.Values.{not_some}
use Rattle.joining.specs.Outcome.{Outcome, refused, in_room, after}
use Rattle.link.specs.declared.Which.TheVariants.{First, Second, Union}
use Rattle.link.specs.declared.LinkRefusal.{LinkRefusal}
use Rattle.link.specs.Outcome.{refusal_of, link_of, link_in, linked_as}
use Rattle.link.specs.Demand.{left_in}
use Rattle.pile.specs.declared.Pile.{Pile}
use Rattle.pile.specs.declared.Added.TheVariants.{Grown, Refused, Full}
use Rattle.pile.specs.Pile.{no_files, whole_of, whole_in, more_in, more_answer, more_buffer, Turn, turn, added, ended, onward, add_all, piled, left_of, pile}
use Rattle.pile.specs.Claim.{MeanAll, PilesTaken}
use Rattle.pile.proofs.Faces.{more_first, more_next}
use Rattle.pile.proofs.Turns.{parity, added-full, added_even, added_odd, left_even, left_odd}

-- ---- a file that is refused

module _ (f : List ℕ) (n q : ℕ) (d : decode f ≡ bad n q) where
  second_bad : (room : ℕ) (g : Got Typelib) → (x : LinkRefusal) × (in_room (refusal_of Union) room (link_of g (decode f)) ≡ refused x)
  unfolding link_of in_room
  second_bad room (bad k p) = (refusal_of First k p, refl)
  second_bad room (got t e) = (refusal_of Second n q, rw d refl)

  first_bad : (room : ℕ) → whole_in room f ≡ refused (refusal_of First n q)
  unfolding whole_in whole_of in_room
  first_bad room = rw d refl

  more_bad : (room : ℕ) (p : Pile) (held : List ℕ) → (x : LinkRefusal) × (more_in room p held f ≡ refused x)
  unfolding link_in
  more_bad room p held = go p.files refl
    where
      go : (k : ℕ) → p.files ≡ k → (x : LinkRefusal) × (more_in room p held f ≡ refused x)
      go zero e = (refusal_of First n q, more_first p held f room e ∙ first_bad room)
      go (suc k) e = let s = second_bad room (decode (take p.length held)) in (s.0, more_next p held f room (λ z. omega (arith, e)) ∙ s.1)

  none_in : (p : Pile) (held out : List ℕ) → left_in (more_buffer p held f out) (more_answer p held f out) ≡ none
  unfolding more_answer more_buffer linked_as left_in
  none_in p held out = let s = more_bad (length out) p held in ap (λ (o : Outcome LinkRefusal). left_in (after o out) (linked_as o)) s.1

  added_bad : (p : Pile) (one other : List ℕ) → left_of (added p f one other) ≡ none
  added_bad p one other = go (pile_limit ≤? p.files) refl
    where
      go : (b : Bool) → (pile_limit ≤? p.files) ≡ b → left_of (added p f one other) ≡ none
      go true e = ap left_of (added-full p f one other (from_yes_le pile_limit p.files e)) ∙ (unfold left_of in refl)
      go false e =
          let l = from_not_le pile_limit p.files e in
          elim (parity p.files) [
            | inl z ↦ ap left_of (added_even p f one other l z) ∙ left_even p (more_answer p other f one) (more_buffer p other f one) other z ∙ none_in p other one
            | inr z ↦ ap left_of (added_odd p f one other l z) ∙ left_odd p (more_answer p one f other) one (more_buffer p one f other) z ∙ none_in p one other
          ]

  next_bad : (t : Turn) → left_of (onward (λ p. added p f) t) ≡ none
  unfolding onward left_of
  next_bad (turn (Grown p) one other) = added_bad p one other
  next_bad (turn (Refused x) one other) = refl
  next_bad (turn Full one other) = refl

-- ---- nothing is left after a refusal

stuck : (fs : List (List ℕ)) (t : Turn) → left_of t ≡ none → left_of (onward ended (add_all t fs)) ≡ none
unfolding add_all onward left_of
stuck [] (turn (Grown p) one other) e = not_some (sym e)
stuck [] (turn (Refused x) one other) e = refl
stuck [] (turn Full one other) e = refl
stuck (f ∷ fs) (turn (Grown p) one other) e = not_some (sym e)
stuck (f ∷ fs) (turn (Refused x) one other) e = stuck fs (turn (Refused x) one other) e
stuck (f ∷ fs) (turn Full one other) e = stuck fs (turn Full one other) e

All-taken : (fs : List (List ℕ)) (t : Turn) (b : List ℕ) → All Bytes fs → left_of (onward ended (add_all t fs)) ≡ some b → (As : List (List (Entry Key))) × MeanAll fs As
unfolding add_all
All-taken [] t b s e = ([], tt)
All-taken (f ∷ fs) t b s e = go (decode f) refl (All-taken fs (onward (λ p. added p f) t) b s.1 e)
  where
    go : (g : Got Typelib) → decode f ≡ g → (As : List (List (Entry Key))) × MeanAll fs As → (As : List (List (Entry Key))) × MeanAll (f ∷ fs) As
    go (bad n q) d r = not_some (sym (stuck fs (onward (λ p. added p f) t) (next_bad f n q d t)) ∙ e)
    go (got u k) d r = (meaning (entries_in u) ∷ r.0, (record { bytes = s.0; typelib = u; end = k; decoded = d; meant = refl }, r.1))

pub piles_taken : PilesTaken
unfolding pile piled
piles_taken fs one other b s e = All-taken fs (turn (Grown no_files) one other) b s e
