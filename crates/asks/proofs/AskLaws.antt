-- What matches no question is none; what is told of a file that was read, and of one that cannot be.
-- Assumes nothing.
use Rattle.std.specs.Prelude.{None, Option, Some}
use mathlib.Core.Path.{◌≡◌, refl, subst}
use mathlib.Core.Bool.{Bool, true, false}
use mathlib.Core.List.{List, []}
use Prim.Native.Nat.{ℕ}
use lib.IntN.{ℤ}
use Rattle.verbs.specs.declared.Question.{Question}
use Rattle.verbs.specs.declared.Verb.{Verb}
use Rattle.verbs.specs.declared.Verb.TheVariants as verb
use Rattle.tasks.specs.declared.Task.{Task}
use Rattle.tasks.specs.declared.Task.TheVariants.{Mistaken, Run, Pile, Types}
use Rattle.words.specs.Words.{words_of}
use Rattle.tasks.specs.Tasks.{argument}
use Rattle.said.specs.declared.Said.{Said}
use Rattle.said.specs.Saying.{Says}
use Rattle.commands.specs.Answer.{answer_of}
use Rattle.failures.specs.Lines.{unread_text}
use Rattle.input.specs.File.{Unread}
use Rattle.told.specs.declared.Told.{Told}
use Rattle.streams.specs.Printed.{Printed, Front}
use Rattle.told.specs.Tells.{Tells}
use Rattle.told.proofs.PrintLaws.{Tells-as, told_or_gone}
use Rattle.asks.specs.Asked.{is_question, is_asked, is_here, name_in, answer_text, Replied, unread, Took, TookIf}

pub other_verb : (v : Verb) → ((q : Question) → v ≡ verb.Ask q → ⊥) → is_question v ≡ false
unfolding is_question
other_verb (verb.Ask q) o = absurd (o q refl)
other_verb verb.List o = refl
other_verb verb.Table o = refl
other_verb verb.Normal o = refl
other_verb verb.Adopt o = refl
other_verb verb.Link o = refl
other_verb verb.Salvage o = refl
other_verb verb.Unknown o = refl

pub other_task_lem : (t : Task) → ((v : Verb) → t ≡ Run v → ⊥) → is_asked t ≡ false
unfolding is_asked
other_task_lem (Mistaken m) o = refl
other_task_lem (Run v) o = absurd (o v refl)
other_task_lem (Pile n) o = refl
other_task_lem (Types m q) o = refl

pub answer_Front : (line file before head : List ℕ) (said : Said) → Says (answer_of 0 line file [] []).saying before said head → Front (answer_text line file) said.length head
unfolding answer_text
answer_Front line file before head said s = record { long = s.long; before = before; stored = s.stored }

pub Unread-told : (line : List ℕ) (e d : ℤ) (t : Told) → d ≡ e → Unread (name_in line) e → Tells (Printed (unread_text (argument 1 (words_of 0 line)) d)) t → Tells (Replied line) t
unfolding name_in
Unread-told line e d t same u p = Tells-as (Printed (unread_text (name_in line) d)) (Replied line) t (λ q. unread e u (subst (λ (i : ℤ). Printed (unread_text (name_in line) i)) same q)) p

pub Took-here : (line : List ℕ) (b : Bool) (r : Option Told) (t : Told) → r ≡ Some t → (is_here r ≡ b) × Took line r → (true ≡ b) × TookIf line true
unfolding is_here
Took-here line b r t e p =
    let q = subst (λ (x : Option Told). (is_here x ≡ b) × Took line x) e p in
    (q.0, told_or_gone (Replied line) t q.1)

pub Took-elsewhere : (line : List ℕ) (b : Bool) (r : Option Told) → r ≡ None → (is_here r ≡ b) × Took line r → (false ≡ b) × TookIf line false
unfolding is_here
Took-elsewhere line b r e p = (subst (λ (x : Option Told). is_here x ≡ b) e p.0, tt)
