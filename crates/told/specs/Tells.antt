-- What a command told on standard output.
-- Assumes nothing.
use Rattle.std.specs.Prelude.{Bool, true, false}
use Rattle.streams.specs.Printed.{OutputGone}
use Rattle.told.specs.declared.Told.{Told}
use Rattle.told.specs.declared.Told.TheVariants.{Answer, Mistake, Closed}

-- P holds, unless standard output took no more
abbrev pub Tells : Type 0 → Told → Type 0
Tells P Answer = P
Tells P Mistake = P
Tells P Closed = OutputGone

unfoldable pub is_open : Told → Bool
is_open Answer = true
is_open Mistake = true
is_open Closed = false
