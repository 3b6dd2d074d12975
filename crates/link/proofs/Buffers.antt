-- What stands at the front of a buffer where the answer is a length.
-- Assumes nothing.
use Rattle.std.specs.Prelude.{Err, Ok}
use mathlib.Core.Path.{◌≡◌, refl, sym, ap, ◌∙◌}
use mathlib.Core.List.{List}
use Prim.Native.Nat.{ℕ, ◌≤◌}
use native.Mathlib.Omega.{arith}
use lib.ListN.{length, take}
use lib.Seq.{sets}
use Rattle.number.specs.Choice.{◌<?◌}
use Rattle.number.proofs.Choice.{no_lt, both, from_not_lt}
use Rattle.decimal.proofs.Stores.{front}
use Rattle.reading.specs.declared.Refusal.{Refusal}
use Rattle.reader.specs.Reader.{decode}
use Rattle.joining.specs.Outcome.{Outcome, refused, written, refusal, in_room, after, normalised_as}
use Rattle.link.specs.declared.Which.TheVariants.{Union}
use Rattle.link.specs.declared.LinkRefusal.{LinkRefusal}
use Rattle.link.specs.Outcome.{refusal_of, normal_of, normalise_in, normalise_answer, normalise_buffer, link_of, link_in, linked_as, link_answer, link_buffer}

-- the outcome o is n bytes, which are the first of what was left
pub record Front {X : Type 0} (o : Outcome X) (n : ℕ) (left : List ℕ) : Type 0 where
  pub whole : o ≡ written (take n left)
  pub long : length (take n left) ≡ n

module _ {X : Type 0} (stop : ℕ → ℕ → X) (out : List ℕ) where
  -- what has room
  room_left : (o : Outcome X) (b : List ℕ) → in_room stop (length out) o ≡ written b → (o ≡ written b) × (length b ≤ length out)
  unfolding in_room
  room_left (refused x) b e = absurd (let z : ◌≡◌ {A = ℕ} 0 1 = cc in omega arith)
  room_left (written c) b e =
      both (λ (o : Outcome X). o ≡ written b → (◌≡◌ {A = Outcome X} (written c) (written b)) × (length b ≤ length out)) (length out <? length c) _ _
      (λ t h. absurd (let z : ◌≡◌ {A = ℕ} 0 1 = cc in omega arith))
      (λ f h. (h, let q : length c ≡ length b = cc in omega (arith, q, from_not_lt (length out) (length c) f))) e

  pub Front-left : (o : Outcome X) (b : List ℕ) → in_room stop (length out) o ≡ written b → Front o (length b) (after (in_room stop (length out) o) out)
  unfolding after
  Front-left o b e =
      let r = room_left o b e in
      let f : take (length b) (after (in_room stop (length out) o) out) ≡ b = ap (λ (q : Outcome X). take (length b) (after q out)) e ∙ front out b r.1 in
      record { whole = r.0 ∙ ap (λ (c : List ℕ). written c) (sym f); long = ap (λ (c : List ℕ). length c) f }

  -- and what is written where there is room
  pub room_written : (o : Outcome X) (b : List ℕ) → o ≡ written b → length b ≤ length out → in_room stop (length out) o ≡ written b
  unfolding in_room
  room_written o b e l = ap (in_room stop (length out)) e ∙ sym (no_lt _ _ _ _ l refl)

-- ---- normalising

normal_written : (o : Outcome Refusal) (n : ℕ) → normalised_as o ≡ Ok n → (b : List ℕ) × (o ≡ written b) × (length b ≡ n)
unfolding normalised_as
normal_written (refused x) n e = absurd (let z : ◌≡◌ {A = ℕ} 0 1 = cc in omega arith)
normal_written (written b) n e = (b, refl, cc)

pub normal_Front : (a out : List ℕ) (n : ℕ) → normalise_answer a out ≡ Ok n → Front (normal_of (decode a)) n (normalise_buffer a out)
unfolding normalise_answer normalise_buffer normalise_in
normal_Front a out n e =
    let r = normal_written _ n e in
    rw (← r.2) (Front-left refusal out (normal_of (decode a)) r.0 r.1)

-- the bytes stand in any buffer with room for them
pub normal_room : (a out b : List ℕ) → normal_of (decode a) ≡ written b → length b ≤ length out → (normalise_answer a out ≡ Ok (length b)) × (normalise_buffer a out ≡ sets out 0 b)
unfolding normalise_answer normalise_buffer normalise_in normalised_as after
normal_room a out b e l = let r = room_written refusal out (normal_of (decode a)) b e l in (ap normalised_as r, ap (λ (o : Outcome Refusal). after o out) r)

-- ---- linking

link_written : (o : Outcome LinkRefusal) (n : ℕ) → linked_as o ≡ Ok n → (b : List ℕ) × (o ≡ written b) × (length b ≡ n)
unfolding linked_as
link_written (refused x) n e = absurd (let z : ◌≡◌ {A = ℕ} 0 1 = cc in omega arith)
link_written (written b) n e = (b, refl, cc)

pub link_Front : (a b out : List ℕ) (n : ℕ) → link_answer a b out ≡ Ok n → Front (link_of (decode a) (decode b)) n (link_buffer a b out)
unfolding link_answer link_buffer link_in
link_Front a b out n e =
    let r = link_written _ n e in
    rw (← r.2) (Front-left (refusal_of Union) out (link_of (decode a) (decode b)) r.0 r.1)

pub link_room : (a b out c : List ℕ) → link_of (decode a) (decode b) ≡ written c → length c ≤ length out → (link_answer a b out ≡ Ok (length c)) × (link_buffer a b out ≡ sets out 0 c)
unfolding link_answer link_buffer link_in linked_as after
link_room a b out c e l = let r = room_written (refusal_of Union) out (link_of (decode a) (decode b)) c e l in (ap linked_as r, ap (λ (o : Outcome LinkRefusal). after o out) r)

-- a refusal of the union, in any buffer
pub link_stopped : (a b out : List ℕ) (x : LinkRefusal) → link_of (decode a) (decode b) ≡ refused x → (link_answer a b out ≡ Err x) × (link_buffer a b out ≡ out)
unfolding link_answer link_buffer link_in in_room linked_as after
link_stopped a b out x e = rw e (refl, refl)
