-- What is left of an answer as it is written, and what is told of it.
-- Assumes nothing.
use mathlib.Core.Path.{◌≡◌, refl, sym, ap, subst, ◌∙◌}
use mathlib.Core.Bool.{Bool, true, false}
use mathlib.Core.Logic.{◌⊎◌, inl, inr}
use mathlib.Core.List.{List, [], ◌++◌, append-nil, append_assoc}
use Prim.Native.Nat.{ℕ}
use Rattle.number.proofs.Scans.{clash}
use Rattle.listed.specs.Rest as lines
use Rattle.listed.specs.declared.Next.{Next}
use Rattle.listed.specs.declared.Next.TheVariants as next
use Rattle.streamed.specs.declared.Stream.{Stream}
use Rattle.streamed.specs.declared.Stream.TheVariants.{Lines, Part, Paths}
use Rattle.streamed.specs.Stream.{is_over, LeftOf}
use Rattle.streams.specs.Printed.{Printed, OutputGone}
use Rattle.told.specs.declared.Told.{Told}
use Rattle.told.specs.declared.Told.TheVariants.{Answer, Mistake, Closed}
use Rattle.told.specs.Tells.{Tells, is_open}

-- nothing is left of a text that is over
pub over_left : (b : Bool) (s : List ℕ) (x : Stream) (text : List ℕ) → is_over x ≡ true → LeftOf b s x text → text ≡ []
unfolding is_over lines.is_over lines.nothing_next
over_left b s (Lines r) text e l = over r.next e l
  where
    over : (n : Next) → lines.nothing_next n ≡ true → lines.LeftAt b s r.layout n text → text ≡ []
    over next.Over e l = l
    over next.Closing e l = clash false e refl
    over (next.At c) e l = clash false e refl
over_left b s (Part x) text e l = clash false e refl
over_left b s (Paths c) text e l = clash false e refl

-- of a text the first bytes were written, and the others are left
pub record Along (b : Bool) (s : List ℕ) (rest : Stream) (text : List ℕ) : Type 0 where
  pub done : List ℕ
  pub left : List ℕ
  pub split : text ≡ done ++ left
  pub printed : Printed done
  pub leads : LeftOf b s rest left

pub Along-end : (b : Bool) (s : List ℕ) (rest : Stream) (text : List ℕ) → is_over rest ≡ true → Along b s rest text → Printed text
Along-end b s rest text e a = subst Printed (sym (a.split ∙ ap (λ (l : List ℕ). a.done ++ l) (over_left b s rest a.left e a.leads) ∙ append-nil a.done)) a.printed

pub Along-more : (b : Bool) (s : List ℕ) (rest next : Stream) (text : List ℕ) (a : Along b s rest text) (bytes left : List ℕ) → a.left ≡ bytes ++ left → Printed (a.done ++ bytes) → LeftOf b s next left → Along b s next text
Along-more b s rest next text a bytes left e p l = record {
  done = a.done ++ bytes;
  left = left;
  split = a.split ∙ ap (λ (z : List ℕ). a.done ++ z) e ∙ sym (append_assoc a.done bytes left);
  printed = p;
  leads = l;
}

-- what is told
pub Tells-as : (P Q : Type 0) (t : Told) → (P → Q) → Tells P t → Tells Q t
Tells-as P Q Answer f p = f p
Tells-as P Q Mistake f p = f p
Tells-as P Q Closed f p = p

pub told_or_gone : (P : Type 0) (t : Told) → Tells P t → P ⊎ OutputGone
told_or_gone P Answer p = inl p
told_or_gone P Mistake p = inl p
told_or_gone P Closed p = inr p

-- standard output is open, and what holds is told
pub Tells-open : (P : Type 0) (t : Told) → is_open t ≡ true → P → Tells P t
unfolding is_open
Tells-open P Answer e p = p
Tells-open P Mistake e p = p
Tells-open P Closed e p = clash false e refl
