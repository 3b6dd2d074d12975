-- A link of many files, from the bytes of its files, in the order given, to its line, to what is saved and to every byte of the two buffers.
-- Assumes nothing.
use Rattle.std.specs.Prelude.{◌≡◌, Bool, List, ℕ, ◌%◌, ◌≤◌, take}
use Rattle.std.proofs.Math.Option.{Option, none, some}
use Rattle.number.specs.Choice.{when◌then◌else◌, ◌=?◌}
use Rattle.number.specs.Limits.{file_limit}
use Rattle.kept.specs.Table.{Tidy}
use Rattle.store.specs.declared.Loaded.{Loaded}
use Rattle.said.specs.Saying.{answer_room, Saying, Says}
use Rattle.said.specs.declared.Why.TheVariants.{Answered}
use Rattle.pile.specs.declared.Pile.{Pile}
use Rattle.pile.specs.declared.Added.{Added}
use Rattle.pile.specs.declared.Added.TheVariants.{Grown, Refused, Full}
use Rattle.pile.specs.Pile.{Turn, answer_in, first_in, second_in, left_of, piled}
use Rattle.piling.specs.declared.Went.{Went}
use Rattle.piling.specs.declared.Went.TheVariants as went
use Rattle.piling.specs.declared.Saves.{Saves}
use Rattle.piling.specs.declared.Saves.TheVariants as saves
use Rattle.piling.specs.declared.Replied.{Replied}
use Rattle.piled.specs.Lines.{say_piled}
use Rattle.piling.specs.Fetching.{Store, store_of, Fetches, Whole, Stopped}

-- the line, the file that is saved where there is one, and the two buffers afterwards
pub record PileAnswer : Type 0 where
  pub saying : Saying
  pub saved : Option (List ℕ)
  pub one : List ℕ
  pub other : List ℕ

abbrev turn_answer : Turn → PileAnswer
turn_answer t = record { saying = say_piled (answer_in t); saved = left_of t; one = first_in t; other = second_in t }

-- the files fs are linked in their order
unfoldable pub pile_answer : List (List ℕ) → List ℕ → List ℕ → PileAnswer
pile_answer fs one other = turn_answer (piled fs one other)

-- ---- what is saved, as a place in one of the buffers

unfoldable pub place_of : Pile → Saves
place_of p = when p.files % 2 =? 0 then saves.Second p.length else saves.First p.length

unfoldable pub saves_of : Added → Saves
saves_of (Grown p) = place_of p
saves_of (Refused x) = saves.Nothing
saves_of Full = saves.Nothing

-- the bytes there
unfoldable pub bytes_at : Saves → List ℕ → List ℕ → Option (List ℕ)
bytes_at saves.Nothing one other = none
bytes_at (saves.First n) one other = some (take n one)
bytes_at (saves.Second n) one other = some (take n other)

abbrev pub SavesIn : ℕ → Saves → Type 0
SavesIn room saves.Nothing = Unit {0}
SavesIn room (saves.First n) = n ≤ room
SavesIn room (saves.Second n) = n ≤ room

-- ---- the command

-- r and the buffers are what x says; `before` is the line's buffer as it was
pub record Gives (x : PileAnswer) (before : List ℕ) (r : Replied) (first second text : List ℕ) : Type 0 where
  pub said : Says x.saying before r.said text
  pub saved : bytes_at r.saves first second ≡ x.saved
  pub one : first ≡ x.one
  pub other : second ≡ x.other

-- The first files of the command were fetched and are answered; all n of them unless one is refused.
pub record Told (batch : Bool) (ws : List (List ℕ)) (n : ℕ) (s : Store) (one other before : List ℕ) (a : Added) (r : Replied) (t : Store) (first second text : List ℕ) : Type 0 where
  pub files : List (List ℕ)
  pub fetched : Fetches batch ws r.count s files t
  pub whole : Whole n r.count a
  pub answer : a ≡ answer_in (piled files one other)
  pub gives : Gives (pile_answer files one other) before r first second text

-- A file is not to be had: nothing is said here, and nothing is saved.
pub record Missed (batch : Bool) (ws : List (List ℕ)) (s : Store) (one other before : List ℕ) (file : Loaded) (r : Replied) (t : Store) (first second text : List ℕ) : Type 0 where
  pub stopped : Stopped batch ws r.count s one other file t first second
  pub said : r.said ≡ record { length = 0; why = Answered }
  pub saved : r.saves ≡ saves.Nothing
  pub silent : text ≡ before

unfoldable pub Tells : Bool → List (List ℕ) → ℕ → Store → List ℕ → List ℕ → List ℕ → Went → Replied → Store → List ℕ → List ℕ → List ℕ → Type 0
Tells batch ws n s one other before (went.Added a) r t first second text = Told batch ws n s one other before a r t first second text
Tells batch ws n s one other before (went.Wanting file) r t first second text = Missed batch ws s one other before file r t first second text

-- n files of the command with the words ws, from the store s and the buffers as they were to those afterwards
pub record Answers (batch : Bool) (ws : List (List ℕ)) (n : ℕ) (s : Store) (one other before : List ℕ) (r : Replied) (rows bytes first second text : List ℕ) : Type 0 where
  pub tidy : Tidy rows r.kept
  pub few : r.count ≤ n
  pub fits : r.said.length ≤ answer_room
  pub room : SavesIn file_limit r.saves
  pub tells : Tells batch ws n s one other before r.went r (store_of r.kept rows bytes) first second text
