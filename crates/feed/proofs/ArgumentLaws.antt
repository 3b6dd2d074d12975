-- What is gathered, case by case.
-- Assumes nothing.
use Rattle.std.specs.Prelude.{None, Option, Some, ℕ}
use mathlib.Core.Path.{◌≡◌, sym, ap, ◌∙◌, subst}
use mathlib.Core.List.{List}
use Prim.Native.Nat.{ℕ, ◌+◌, ◌≤◌}
use native.Mathlib.Omega.{arith}
use lib.ListN.{length, take, set, length-set}
use lib.Seq.{take-take, take-set-le}
use Rattle.feed.specs.declared.arguments.First.TheVariants.{Command}
use Rattle.feed.specs.declared.arguments.Gathered.{Gathered}
use Rattle.feed.specs.declared.arguments.Gathered.TheVariants as gathered
use Rattle.feed.specs.Lines.{input_room}
use Rattle.feed.specs.Arguments.{first_asks, EndsIn, Extends, CommandIn, AskedIn, GatheredIn}

-- ---- lines

-- a shorter front is as it was, too
front_less : (m n : ℕ) (s t : List ℕ) → m ≤ n → take n t ≡ take n s → take m t ≡ take m s
front_less m n s t h e = sym (take-take m n t h) ∙ ap (λ (l : List ℕ). take m l) e ∙ take-take m n s h

ends_less : (m from n : ℕ) (r : Option ℕ) → m ≤ from → EndsIn from n r → EndsIn m n r
ends_less m from n (Some e) h a = (omega arith, a.1)
ends_less m from n None h a = tt

-- what goes on further behind
pub Extends-more : (first end n : ℕ) (before s t : List ℕ) (r : Option ℕ) → first ≤ end → take first s ≡ take first before → Extends n s end r t → Extends n before first r t
Extends-more first end n before s t r h e x = record { ends = ends_less first end n r h x.ends; front = front_less first end s t h x.front ∙ e }

-- an argument behind a zero byte
pub Extends-byte : (s t : List ℕ) (end : ℕ) (r : Option ℕ) → Extends (length (set s end 0)) (set s end 0) (end + 1) r t → Extends (length s) s end r t
Extends-byte s t end r x =
    subst (λ (n : ℕ). Extends n s end r t) (length-set s end 0)
    (Extends-more end (end + 1) (length (set s end 0)) s (set s end 0) t r (omega arith) (take-set-le end s end 0 (omega arith)) x)

-- ---- what is gathered

module _ (count n : ℕ) (line : List ℕ) where
  pub asked_command : (r : Gathered) → first_asks count (take n line) ≡ Command → CommandIn count n line r → AskedIn count n line r
  asked_command gathered.Nothing e c = c
  asked_command gathered.TooLong e c = tt
  asked_command gathered.Help e c = absurd c
  asked_command gathered.Version e c = absurd c
  asked_command gathered.Batch e c = absurd c
  asked_command (gathered.HelpOf k) e c = (e, c)
  asked_command (gathered.Words k) e c = (e, c)

  pub asked_gathered : (r : Gathered) → n ≤ input_room → AskedIn count n line r → GatheredIn line r
  asked_gathered gathered.Nothing h a = tt
  asked_gathered gathered.TooLong h a = tt
  asked_gathered gathered.Help h a = record { count = count; size = n; first = a }
  asked_gathered gathered.Version h a = record { count = count; size = n; first = a }
  asked_gathered gathered.Batch h a = record { count = count; size = n; first = a }
  asked_gathered (gathered.HelpOf k) h a =
      let e = a.1.0 in
      record { within = omega (arith, e); count = count; first = rw e a.0; end = a.1.1.0; flag = rw e a.1.1.1 }
  asked_gathered (gathered.Words e) h a = record { within = a.1.0; count = count; size = n; first = a.0; other = a.1.1 }
