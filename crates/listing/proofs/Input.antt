-- What is read is enough: of any input, the first 65,537 bytes are printed as the whole is.
-- Assumes nothing.
use mathlib.Core.Bool.{Bool, true, false}
use mathlib.Core.List.{List}
use lib.ListN.{length-take}
use lib.Seq.{take_all}
use Rattle.std.specs.Prelude.{◌≡◌, ◌<◌}
use Rattle.number.proofs.Tools.{ℕ, refl, sym, ap, ◌∙◌, ◌<?◌, arith, length, take, is_lt}
use Rattle.number.proofs.Choice.{from_yes_lt, from_not_lt}
use Rattle.printed.specs.Listing.{too_long, printed_of}

long : (s : List ℕ) → 65536 < length s → too_long ≡ printed_of s
unfolding printed_of
long s h = is_lt _ _ _ _ h refl

by_test : (s : List ℕ) (t : Bool) → (65536 <? length s) ≡ t → printed_of (take 65537 s) ≡ printed_of s
by_test s false e = ap printed_of (take_all 65537 s (omega (arith, from_not_lt 65536 (length s) e)))
by_test s true e =
    let h = from_yes_lt 65536 (length s) e in
    sym (long (take 65537 s) (simp length-take (omega (arith, h)))) ∙ long s h

pub enough : (s : List ℕ) → printed_of (take 65537 s) ≡ printed_of s
enough s = by_test s (65536 <? length s) refl
