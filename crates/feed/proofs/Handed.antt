-- All lines are handed on, whatever sizes the reads come in.
-- Assumes nothing.
use mathlib.Core.Path.{◌≡◌, refl}
use mathlib.Core.List.{List, [], ◌∷◌, append-nil}
use Prim.Native.Nat.{ℕ}
use Rattle.number.specs.Choice.{when◌then◌else◌, ◌=?◌, ◌≤?◌}
use Rattle.ascii.specs.Ascii.{ascii}
use Rattle.feed.specs.Lines.{Item, line, lines_of, item_of, items_of}
use Rattle.feed.specs.declared.Feed.{Feed}
use Rattle.feed.specs.declared.Coming.TheVariants.{Over}
use Rattle.feed.specs.Input.{Reads, Comes}
use Rattle.feed.specs.Way.{Way, begins, takes, passes, reads}

-- wherever a way has come to
pub Way-Reads : {past : List ℕ} {handed : List Item} {f : Feed} {input : List ℕ} → Way past handed f input → Reads past handed f input
Way-Reads (begins f input s) = s.reads input
Way-Reads (takes w t c) = c.hands _ _ (Way-Reads w)
Way-Reads (passes w g c) = c.hands _ _ (Way-Reads w)
Way-Reads (reads {handed} w g c a after e) = e.adds _ _ (rw (append-nil handed) at (c.hands _ _ (Way-Reads w)))

-- where the feeder says that it is over, one item was handed on for each line of all that was read, in order
pub all_handed : {past : List ℕ} {handed : List Item} {f : Feed} {input : List ℕ} → Way past handed f input → Comes input f Over → handed ≡ items_of past
all_handed w c = c.all _ _ (Way-Reads w)

-- an empty line is a line, and so is what no newline ends
pub some_lines : items_of (ascii "list a\n\ncheck b") ≡ line (ascii "list a") ∷ (line [] ∷ (line (ascii "check b") ∷ []))
unfolding items_of lines_of item_of when◌then◌else◌ ◌=?◌ ◌≤?◌
some_lines = refl

pub ended_lines : items_of (ascii "list a\n") ≡ line (ascii "list a") ∷ []
unfolding items_of lines_of item_of when◌then◌else◌ ◌=?◌ ◌≤?◌
ended_lines = refl
