-- A row of two accepted files is an entry of one of them.
-- Assumes nothing.
use mathlib.Core.Path.{◌≡◌, ap, ◌∙◌}
use mathlib.Core.List.{List}
use mathlib.Core.Option.{Option, none}
use Prim.Native.Nat.{ℕ, suc, ◌+◌, ◌-◌, ◌≤◌, ◌<◌}
use native.Mathlib.Omega.{arith}
use lib.ListN.{length, get_or}
use Rattle.number.specs.Limits.{row_limit}
use Rattle.reader.specs.declared.Layout.{Layout}
use Rattle.reader.specs.Values.{Descriptor, entry_descriptor, descriptor_in}
use Rattle.meaning.specs.Meaning.{map_own}
use Rattle.iids.specs.Cells.{cell}
use Rattle.rows.specs.Rows.{descriptor_of_row, reference_in}
use Rattle.rows.specs.Files.{Pair, HoldBoth}
use Rattle.bridge.specs.Written.{held_in, counted_of}
use Rattle.bridge.proofs.Rows.{row_first, row_second}
use Rattle.bridge.proofs.Pairs.{held_none, held_some}
use Rattle.gather.specs.View.{row_own, Viewed}

-- what stands in the tables of a view
module _ (n : ℕ) (t holders : List ℕ) (c : ℕ) (v : Viewed n t holders c) where
  pub read_row_lem : (q r : ℕ) → q < c → r ≡ get_or t q 0 → (r ≡ cell t q) × (r < n)
  unfolding cell
  read_row_lem q r l e = (e, let b = v.rows q l in omega arith)

  pub read_holder : (r h : ℕ) → r < n → h ≡ get_or holders r 0 → (h ≡ cell holders r) × (h ≤ n)
  unfolding cell
  read_holder r h l e = (e, let b = v.held r l in omega arith)

module _ (s pool : List ℕ) (l : Layout) (s2 pool2 : List ℕ) (l2 : Layout) (x : Pair) (h : HoldBoth s pool l s2 pool2 l2 x) where
  counts : length x.first ≡ l.count
  counts = h.first.laid.count

  pub rows_few : l.count + l2.count ≤ row_limit
  rows_few = omega (arith, h.first.laid.few, h.second.laid.few)

  -- ---- descriptors; t is the row that has one, counted from 1

  module _ (t : ℕ) where
    pub own_none : t ≡ 0 → row_own x t ≡ none
    unfolding row_own
    own_none z = ap (held_in (counted_of x.first x.second)) z ∙ held_none (counted_of x.first x.second)

    module _ (i : ℕ) (e : t ≡ suc i) where
      -- the references as they stand in the file, and what becomes of them
      own_file : (d : Option (Descriptor ℕ)) → descriptor_of_row x.first x.second i ≡ d → row_own x t ≡ map_own (reference_in (length x.first) i) d
      unfolding row_own counted_of
      own_file d z = held_some (counted_of x.first x.second) t i e ∙ ap (map_own (reference_in (length x.first) i)) z

      pub own_first : i < l.count → row_own x t ≡ map_own (reference_in (length x.first) i) (descriptor_in x.first i)
      unfolding descriptor_of_row descriptor_in
      own_first b = own_file (descriptor_in x.first i) (ap entry_descriptor (row_first x.first x.second i (omega (arith, counts))))

      pub own_second : l.count ≤ i → row_own x t ≡ map_own (reference_in (length x.first) i) (descriptor_in x.second (i - l.count))
      unfolding descriptor_of_row descriptor_in
      own_second b =
          let e = counts in
          own_file (descriptor_in x.second (i - l.count)) (ap entry_descriptor (row_second x.first x.second i (omega arith)) ∙ ap (λ (n : ℕ). descriptor_in x.second (i - n)) e)
