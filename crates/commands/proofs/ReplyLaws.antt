-- Answers of one line, and those that are opened.
-- Assumes nothing.
use mathlib.Core.Path.{◌≡◌, refl}
use mathlib.Core.Bool.{Bool}
use mathlib.Core.List.{List, []}
use Prim.Native.Nat.{ℕ}
use native.Mathlib.Omega.{arith}
use Rattle.said.specs.declared.Said.{Said}
use Rattle.said.specs.declared.Why.TheVariants.{Answered}
use Rattle.said.specs.Saying.{Saying, Says, saying}
use Rattle.streamed.specs.declared.Begun.{Begun}
use Rattle.streamed.specs.Stream.{no_rest, Opens}
use Rattle.streamed.proofs.StreamLaws.{Says-Opens}
use Rattle.commands.specs.declared.Reply.{Reply}
use Rattle.made.specs.declared.Made.{Made}
use Rattle.made.specs.Made.{Answer, answered, Makes}
use Rattle.commands.specs.Answer.{silence, one_line, opened_reply, made_reply, Replies}

pub Says-Replies : (b : Bool) (x : Saying) (s before : List ℕ) (said : Said) (r : Reply) (out after : List ℕ) → Says x before said after → r ≡ one_line said → Replies b (answered x out) s before r out after
Says-Replies b x s before said r out after h e = rw e (record { opens = Says-Opens b x s before said no_rest after h refl; whose = refl; save = refl; output = refl })

-- nothing is said where nothing was written
pub silent_Says : (said : Said) (text : List ℕ) → said ≡ silence → Says (saying [] Answered) text said text
silent_Says said text e = rw e (record { long = refl; why = refl; stored = refl; fits = omega arith })

-- what was opened is the answer's beginning
pub Opens-Replies : (b : Bool) (x : Saying) (s before : List ℕ) (begun : Begun) (r : Reply) (out after : List ℕ) → Opens b x s before begun after → r ≡ opened_reply begun → Replies b (answered x out) s before r out after
Opens-Replies b x s before begun r out after h e = rw e (record { opens = h; whose = refl; save = refl; output = refl })

-- what was made is all of the answer
pub Makes-Replies : (b : Bool) (x : Answer) (s before : List ℕ) (made : Made) (r : Reply) (out after : List ℕ) → Makes x before made out after → r ≡ made_reply made → Replies b x s before r out after
Makes-Replies b x s before made r out after h e = rw e (record { opens = Says-Opens b x.saying s before made.said no_rest after h.says refl; whose = h.whose; save = h.save; output = h.output })
