-- What an error of the system tells, by errno's number.
-- Assumes nothing.
use Rattle.std.proofs.Common.{arith, refl, ◌≡◌, ◌≤ℤ◌, pos, negsuc, suc, zero, ℤ, Option, None, Some}
use Rattle.paths.specs.Path.{errno_of}
use Rattle.looking.specs.Reason.{reason_of}

pub reason_low : (n : Option ℤ) (r : ℤ) → r ≡ errno_of n → r ≤ℤ pos 0 → pos 5 ≡ reason_of n
unfolding reason_of
reason_low None r e h = refl
reason_low (Some (pos zero)) r e h = refl
reason_low (Some (pos (suc k))) r e h = grind arith
reason_low (Some (negsuc k)) r e h = refl

pub reason_high : (n : Option ℤ) (r : ℤ) → r ≡ errno_of n → (r ≤ℤ pos 0 → ⊥) → r ≡ reason_of n
unfolding reason_of
reason_high None r e h = e
reason_high (Some (pos zero)) r e h = grind arith
reason_high (Some (pos (suc k))) r e h = e
reason_high (Some (negsuc k)) r e h = grind arith
