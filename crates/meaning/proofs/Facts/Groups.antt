-- Linking three files in either grouping: both join to the same list, or neither joins.
-- Assumes nothing.
use mathlib.Core.Path.{◌≡◌, refl, sym, ◌∙◌}
use mathlib.Core.List.{List, ◌++◌}
use mathlib.Core.Option.{none, some}
use Prim.Native.Nat.{ℕ}
use native.Mathlib.Omega.{arith}
use Rattle.key.specs.Key.{Key}
use Rattle.reader.specs.Values.{Entry}
use Rattle.meaning.specs.Facts.Facts.{Within}
use Rattle.meaning.specs.Facts.Conditions.{Fine}
use Rattle.meaning.specs.Facts.Valid.{Valid}
use Rattle.meaning.specs.Facts.Link.{Linked, stopped, joined, link_entries, number_only, joined_of, and_then, Grows}
use Rattle.meaning.proofs.Facts.Sets.{In-left, In-right, Sub-group, Sub-regroup}
use Rattle.meaning.proofs.Facts.Said.{Within-Sub, Within-through, Within-more, Within-after}
use Rattle.meaning.proofs.Facts.Agrees.{Sound, Agree-within}
use Rattle.meaning.proofs.Facts.Valids.{valid_Sound}
use Rattle.meaning.proofs.Facts.Closed.{Closed-Valid, Closed-both, union_says, union-Valid}
use Rattle.meaning.proofs.Facts.Sizes.{count_Grows}
use Rattle.meaning.proofs.Facts.Links.{Fine-joined, joined-Fine, not_both}
use Rattle.meaning.proofs.Facts.Swaps.{same_facts}

-- what was joined is what an accepted file says
pub joined-Valid : (size : List (Entry Key) → ℕ) (A B : List (Entry Key)) → Valid A → Valid B → (U : List (Entry Key)) → link_entries size A B ≡ joined U → Valid U
joined-Valid size A B a b U h =
    let r = joined-Fine size A B (valid_Sound B b) U h in
    rw r.1 (union-Valid (A ++ B) r.0.agree (Closed-both A B (Closed-Valid A a) (Closed-Valid B b)) r.0.few)

module _ (size : List (Entry Key) → ℕ) (grows : Grows size) where
  -- with fewer facts no condition holds that did not hold
  pub Fine-Within : (es fs : List (Entry Key)) → Within es fs → Fine size fs → Fine size es
  Fine-Within es fs w f =
      let a = Agree-within es fs w f.agree in
      record {
        agree = a;
        few = λ h. f.few (omega (arith, h, count_Grows es fs w a f.agree));
        short = λ h. f.short (omega (arith, h, grows es fs w a f.agree));
      }

  -- where a part is refused, so is the whole
  part : (A B : List (Entry Key)) (n q : ℕ) → link_entries size A B ≡ stopped n q → (C D : List (Entry Key)) → Sound D → Within (A ++ B) (C ++ D) → joined_of (link_entries size C D) ≡ none
  unfolding joined_of
  part A B n q e C D d w = go (link_entries size C D) refl
    where
      go : (r : Linked) → link_entries size C D ≡ r → joined_of r ≡ none
      go (stopped m p) c = refl
      go (joined u) c = not_both (sym e ∙ Fine-joined size A B (Fine-Within (A ++ B) (C ++ D) w (joined-Fine size C D d u c).0))

  joined_number : (r s : Linked) → number_only r ≡ number_only s → joined_of r ≡ joined_of s
  unfolding number_only joined_of
  joined_number (stopped n q) (stopped m p) e = refl
  joined_number (stopped n q) (joined u) e = not_both e
  joined_number (joined u) (stopped m p) e = not_both (sym e)
  joined_number (joined u) (joined v) e = let q : u ≡ v = cc in (λ j. some (q j))

  module _ (A B C : List (Entry Key)) (a : Valid A) (b : Valid B) (c : Valid C) where
    pub grouped : and_then (joined_of (link_entries size A B)) (λ u. joined_of (link_entries size u C)) ≡ and_then (joined_of (link_entries size B C)) (λ u. joined_of (link_entries size A u))
    unfolding joined_of and_then
    grouped = go (link_entries size A B) (link_entries size B C) refl refl
      where
        -- the union of the first two, or of the last two, in place of these
        left : (u : List (Entry Key)) → link_entries size A B ≡ joined u → Within (A ++ B) u × Within u (A ++ B)
        left u e = let r = joined-Fine size A B (valid_Sound B b) u e in let s = union_says (A ++ B) r.0.agree in rw r.1 (s.1, s.0)

        right : (u : List (Entry Key)) → link_entries size B C ≡ joined u → Within (B ++ C) u × Within u (B ++ C)
        right u e = let r = joined-Fine size B C (valid_Sound C c) u e in let s = union_says (B ++ C) r.0.agree in rw r.1 (s.1, s.0)

        go : (r s : Linked) → link_entries size A B ≡ r → link_entries size B C ≡ s
            → and_then (joined_of r) (λ u. joined_of (link_entries size u C)) ≡ and_then (joined_of s) (λ u. joined_of (link_entries size A u))
        go (stopped n q) (stopped m p) e f = refl
        go (joined u) (stopped m p) e f =
            part B C m p f u C (valid_Sound C c) (Within-more B u C (Within-through (Within-Sub B (A ++ B) (λ z i. In-right z A B i)) (left u e).0))
        go (stopped n q) (joined v) e f =
            sym (part A B n q e A v (valid_Sound v (joined-Valid size B C b c v f)) (Within-after B v A (Within-through (Within-Sub B (B ++ C) (λ z i. In-left z B C i)) (right v f).0)))
        go (joined u) (joined v) e f =
            joined_number (link_entries size u C) (link_entries size A v) (same_facts size u C A v (valid_Sound C c) (valid_Sound v (joined-Valid size B C b c v f))
            (Within-through (Within-more u (A ++ B) C (left u e).1) (Within-through (Within-Sub ((A ++ B) ++ C) (A ++ (B ++ C)) (Sub-group A B C)) (Within-after (B ++ C) v A (right v f).0)))
            (Within-through (Within-after v (B ++ C) A (right v f).1) (Within-through (Within-Sub (A ++ (B ++ C)) ((A ++ B) ++ C) (Sub-regroup A B C)) (Within-more (A ++ B) u C (left u e).0))))
