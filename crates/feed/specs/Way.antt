-- A caller's way with the feeder, from the start on: the steps that the contracts of `start`, `next` and `read_more` allow.
-- Assumes nothing.
use Rattle.std.specs.Prelude.{List, [], ◌∷◌, ◌++◌, ℕ}
use Rattle.feed.specs.Lines.{Item, line, too_long}
use Rattle.feed.specs.declared.Feed.{Feed}
use Rattle.feed.specs.declared.Taken.{Taken}
use Rattle.feed.specs.declared.Came.{Came}
use Rattle.feed.specs.declared.Coming.TheVariants.{Line, TooLong, More}
use Rattle.feed.specs.Input.{Starts, line_in, Comes, new_bytes, Adds}

-- `past` was read on it and `handed` handed on; it has come to this feed and this buffer
pub data Way : List ℕ → List Item → Feed → List ℕ → Type 0 where
  begins : (f : Feed) (input : List ℕ) → Starts f → Way [] [] f input
  takes : {past : List ℕ} {handed : List Item} {f : Feed} {input : List ℕ} → Way past handed f input
      → (t : Taken) → Comes input f (Line t) → Way past (handed ++ (line (line_in input t) ∷ [])) t.feed input
  passes : {past : List ℕ} {handed : List Item} {f : Feed} {input : List ℕ} → Way past handed f input
      → (g : Feed) → Comes input f (TooLong g) → Way past (handed ++ (too_long ∷ [])) g input
  reads : {past : List ℕ} {handed : List Item} {f : Feed} {input : List ℕ} → Way past handed f input
      → (g : Feed) → Comes input f (More g) → (c : Came) (after : List ℕ) → Adds input g c after → Way (past ++ new_bytes g c after) handed c.feed after
