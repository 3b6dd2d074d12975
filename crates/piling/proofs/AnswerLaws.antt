-- What a pile answers is told in full: its line, what is saved, and both buffers.
-- Assumes nothing.
use mathlib.Core.Path.{◌≡◌, refl, ap, subst}
use mathlib.Core.Bool.{Bool, true, false}
use mathlib.Core.List.{List}
use mathlib.Core.Option.{some}
use Prim.Native.Nat.{ℕ, ◌%◌}
use lib.ListN.{take}
use Rattle.number.specs.Choice.{when◌then◌else◌, ◌=?◌}
use Rattle.number.specs.Limits.{file_limit}
use Rattle.number.proofs.Choice.{both}
use Rattle.store.specs.declared.Loaded.{Loaded}
use Rattle.said.specs.Saying.{Says}
use Rattle.said.specs.declared.Why.TheVariants.{Answered}
use Rattle.pile.specs.declared.Added.{Added}
use Rattle.pile.specs.declared.Added.TheVariants.{Grown, Refused, Full}
use Rattle.pile.specs.Pile.{turn, answer_in, first_in, second_in, held_by, left_of, piled}
use Rattle.piling.specs.declared.Went.{Went}
use Rattle.piling.specs.declared.Went.TheVariants as went
use Rattle.piling.specs.declared.Saves.{Saves}
use Rattle.piling.specs.declared.Saves.TheVariants as saves
use Rattle.piling.specs.declared.Replied.{Replied}
use Rattle.piled.specs.Lines.{say_piled}
use Rattle.piling.specs.Fetching.{Store, Short, ShortEnd, Ends}
use Rattle.piling.specs.Answers.{pile_answer, place_of, saves_of, bytes_at, SavesIn, Gives, Tells}

-- ---- what is saved

chosen : (t : Bool) (n : ℕ) (one other : List ℕ) → bytes_at (when t then saves.Second n else saves.First n) one other ≡ some (when t then take n other else take n one)
unfolding bytes_at when◌then◌else◌
chosen true n one other = refl
chosen false n one other = refl

-- the place of what is saved is where the pile stands
bytes_left : (a : Added) (one other : List ℕ) → bytes_at (saves_of a) one other ≡ left_of (turn a one other)
unfolding saves_of place_of left_of held_by bytes_at
bytes_left (Grown p) one other = chosen (p.files % 2 =? 0) p.length one other
bytes_left (Refused x) one other = refl
bytes_left Full one other = refl

saves_fit : (a : Added) → Short a → SavesIn file_limit (saves_of a)
unfolding saves_of place_of
saves_fit (Grown p) h = both (λ (x : Saves). SavesIn file_limit x) (p.files % 2 =? 0) (saves.Second p.length) (saves.First p.length) (λ _. h) (λ _. h)
saves_fit (Refused x) h = tt
saves_fit Full h = tt

pub saves_room : (w : Went) (a : Added) (v : Saves) → ShortEnd w → w ≡ went.Added a → v ≡ saves_of a → SavesIn file_limit v
saves_room w a v h e f = rw f (saves_fit a (subst ShortEnd e h))

-- ---- the answer

gives : (fs : List (List ℕ)) (one other before : List ℕ) (a : Added) (r : Replied) (first second text : List ℕ) → turn a first second ≡ piled fs one other → r.saves ≡ saves_of a → Says (say_piled a) before r.said text → Gives (pile_answer fs one other) before r first second text
unfolding pile_answer answer_in first_in second_in
gives fs one other before a r first second text e v w =
    rw (← e) (record { said = w; saved = rw v (bytes_left a first second); one = refl; other = refl })

module _ (b : Bool) (ws : List (List ℕ)) (n : ℕ) (s : Store) (one other before : List ℕ) (k : ℕ) (w : Went) (t : Store) (first second text : List ℕ) (r : Replied) (h : Ends b ws n k s one other w t first second) (c : r.count ≡ k) where
  pub told : (a : Added) → w ≡ went.Added a → r.saves ≡ saves_of a → Says (say_piled a) before r.said text → Tells b ws n s one other before (went.Added a) r t first second text
  unfolding Ends Tells answer_in
  told a e v l =
      let d = subst (λ (y : Went). Ends b ws n k s one other y t first second) e h in
      record { files = d.files; fetched = rw c d.fetched; whole = rw c d.whole; answer = ap answer_in d.answer; gives = gives d.files one other before a r first second text d.answer v l }

  pub missed : (file : Loaded) → w ≡ went.Wanting file → r.said ≡ record { length = 0; why = Answered } → r.saves ≡ saves.Nothing → text ≡ before → Tells b ws n s one other before w r t first second text
  unfolding Ends Tells
  missed file e u v l = rw e (record { stopped = rw c (subst (λ (y : Went). Ends b ws n k s one other y t first second) e h); said = u; saved = v; silent = l })
