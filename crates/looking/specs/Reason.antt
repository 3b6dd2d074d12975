-- What is known of an error of the system.
-- Assumes nothing.
use Rattle.std.specs.Prelude.{None, Option, Some, negsuc, pos, suc, zero, ℤ}

-- errno's number in an error of std's; 5, an error of the device, where it has none above 0
unfoldable pub reason_of : Option ℤ → ℤ
reason_of None = pos 5
reason_of (Some (pos zero)) = pos 5
reason_of (Some (pos (suc e))) = pos (suc e)
reason_of (Some (negsuc e)) = pos 5
