-- Two accepted files whose rows are led to.
-- Assumes nothing.
use mathlib.Core.List.{List}
use Prim.Native.Nat.{ℕ, ◌+◌, ◌≤◌}
use native.Mathlib.Omega.{arith}
use lib.ListN.{drop}
use Rattle.number.specs.Limits.{row_limit}
use Rattle.reader.specs.declared.Layout.{Layout}
use Rattle.reader.specs.Layout.{Lies}
use Rattle.rows.specs.Files.{HoldBoth, Given}

module _ {s : List ℕ} {l : Layout} {s2 : List ℕ} {l2 : Layout} (g : Given (HoldBoth s (drop l.pool s) l s2 (drop l2.pool s2) l2)) where
  pub first_Lies : Lies s l
  first_Lies = record { entries = g.value.first; laid = g.shown.first.laid }

  pub second_Lies : Lies s2 l2
  second_Lies = record { entries = g.value.second; laid = g.shown.second.laid }

  pub rows_few : l.count + l2.count ≤ row_limit
  rows_few = omega (arith, g.shown.first.laid.few, g.shown.second.laid.few)
