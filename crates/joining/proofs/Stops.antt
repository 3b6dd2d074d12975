-- Refusals, and pools that are lent.
-- Assumes nothing.
use Rattle.reading.specs.declared.Refusal.{Refusal}
use Rattle.std.specs.Prelude.{Err, Result, ℕ}
use mathlib.Core.Path.{◌≡◌, ap, ◌∙◌}
use mathlib.Core.List.{List}
use Prim.Native.Nat.{ℕ, ◌-◌}
use lib.ListN.{length, take, drop}
use Rattle.number.proofs.Parts.{part_rest}
use Rattle.reader.specs.declared.Layout.{Layout}
use Rattle.meaning.specs.Facts.Link.{Linked, stopped}
use Rattle.rows.specs.Files.{Pair, HoldBoth, Given}
use Rattle.stages.specs.Stages.{Known, link_pair}
use Rattle.joining.specs.Outcome.{refusal, encoded, in_room, after, normalised_as}
use Rattle.joining.specs.Joins.{union_in, Joins}

-- a refusal from 21 to 26 leaves the buffer as it was
pub stops : {P : Pair → Type 0} (n q : ℕ) {r : Refusal} (out : List ℕ) → r ≡ record { no = n; place = q } → Known P (λ x. stopped n q ≡ link_pair x) → Joins P out (Err r) out
unfolding refusal union_in in_room encoded normalised_as after
stops n q out e k = record {
  answer = λ x h. ap (λ (f : Refusal). Err f) e ∙ ap (λ (o : Linked). normalised_as (in_room refusal (length out) (encoded refusal o))) (k.each x h);
  buffer = λ x h. ap (λ (o : Linked). after (in_room refusal (length out) (encoded refusal o)) out) (k.each x h);
}

-- pools that are lent as parts of the files
module _ (s : List ℕ) (l : Layout) (s2 : List ℕ) (l2 : Layout) where
  abbrev Whole : Pair → Type 0
  Whole = HoldBoth s (drop l.pool s) l s2 (drop l2.pool s2) l2

  abbrev Lent : Pair → Type 0
  Lent = HoldBoth s (take (length s - l.pool) (drop l.pool s)) l s2 (take (length s2 - l2.pool) (drop l2.pool s2)) l2

  pub Lent-Given : Given Whole → Given Lent
  Lent-Given g = rw (part_rest s l.pool, part_rest s2 l2.pool) g

  pub Lent-Joins : (out : List ℕ) (r : Result ℕ Refusal) (left : List ℕ) → Joins Lent out r left → Joins Whole out r left
  Lent-Joins out r left j = rw (part_rest s l.pool, part_rest s2 l2.pool) at j
