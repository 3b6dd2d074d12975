-- The lines of standard input, as they come.
-- Assumes nothing.
use Rattle.std.specs.Prelude.{◌≡◌, Bool, true, false, List, [], ◌∷◌, ◌++◌, ℕ, ◌+◌, ◌-◌, ◌≤◌, ◌<◌, length, get_or, take, drop, Option, unwrap_or}
use Rattle.number.specs.Choice.{when◌then◌else◌, ◌=?◌}
use Rattle.feed.specs.Lines.{Item, line, too_long, input_room, items_of, behind_newline}
use Rattle.feed.specs.declared.Feed.{Feed}
use Rattle.feed.specs.declared.Taken.{Taken}
use Rattle.feed.specs.declared.Came.{Came}
use Rattle.feed.specs.declared.Coming.{Coming}
use Rattle.feed.specs.declared.Coming.TheVariants as coming

-- the bytes from one position up to another, as a slice has them
abbrev pub between : List ℕ → ℕ → ℕ → List ℕ
between s from to = take (to - from) (drop from s)

-- no byte from `from` up to `to` is a newline
pub record NoNewline (s : List ℕ) (from to : ℕ) : Type 0 where
  pub each : (k : ℕ) → from ≤ k → k < to → get_or s k 0 ≡ 10 → ⊥

-- r is the place of the first newline from `from` on, or `end`
pub record FirstNewline (s : List ℕ) (from end r : ℕ) : Type 0 where
  pub ordered : from ≤ r
  pub inside : r ≤ end
  pub none : NoNewline s from r
  pub found : r < end → get_or s r 0 ≡ 10

-- a line without its newline
abbrev pub OneLine : List ℕ → Type 0
OneLine s = NoNewline s 0 (length s)

-- ---- the buffer and its feed

-- what the feed says of the buffer
pub record Fed (input : List ℕ) (f : Feed) : Type 0 where
  pub ordered : f.from ≤ f.seen
  pub before : f.seen ≤ f.end
  pub inside : f.end ≤ input_room
  pub none : NoNewline input f.from f.seen

-- what is in the buffer and not handed on
abbrev pub unread : List ℕ → Feed → List ℕ
unread input f = between input f.from f.end

-- what is still to be handed on where `more` comes: it stands behind what is unread; the rest of a line that was too long is passed over
unfoldable pub ahead : List ℕ → Feed → List ℕ → List ℕ
ahead input f more = when f.is_passing then behind_newline (unread input f ++ more) else unread input f ++ more

-- `past` is all that was read so far and `handed` what was handed on: whatever comes (nothing where the input is over),
-- the items of it all are those that were handed on and those of what is ahead
pub record Reads (past : List ℕ) (handed : List Item) (f : Feed) (input : List ℕ) : Type 0 where
  pub whole : (more : List ℕ) → (f.is_over ≡ true → more ≡ []) → items_of (past ++ more) ≡ handed ++ items_of (ahead input f more)

-- between two feeds over a buffer these items are handed on
abbrev pub Hands : List ℕ → Feed → List Item → Feed → Type 0
Hands input f items g = (past : List ℕ) (handed : List Item) → Reads past handed f input → Reads past (handed ++ items) g input

-- ---- the feeder's steps

-- nothing was read and nothing handed on
pub record Starts (f : Feed) : Type 0 where
  pub fed : (input : List ℕ) → Fed input f
  pub reads : (input : List ℕ) → Reads [] [] f input

-- the bytes of a line that was taken
abbrev pub line_in : List ℕ → Taken → List ℕ
line_in input t = between input t.from t.end

-- the line is the next item
pub record TakesLine (input : List ℕ) (f : Feed) (t : Taken) : Type 0 where
  pub ordered : t.from ≤ t.end
  pub inside : t.end ≤ input_room
  pub one : OneLine (line_in input t)
  pub fed : Fed input t.feed
  pub hands : Hands input f (line (line_in input t) ∷ []) t.feed

-- that a line is too long is the next item
pub record PassesLine (input : List ℕ) (f g : Feed) : Type 0 where
  pub fed : Fed input g
  pub hands : Hands input f (too_long ∷ []) g

-- more can be read: there is room, the input is not over, and nothing in the buffer is left to hand on
pub record AsksMore (input : List ℕ) (f g : Feed) : Type 0 where
  pub fed : Fed input g
  pub room : g.end - g.from < input_room
  pub unended : g.is_over ≡ false
  pub none : NoNewline input g.from g.end
  pub hands : Hands input f [] g

-- the input is over, and all its items were handed on, each once, in order
pub record IsOver (input : List ℕ) (f : Feed) : Type 0 where
  pub over : f.is_over ≡ true
  pub all : (past : List ℕ) (handed : List Item) → Reads past handed f input → handed ≡ items_of past

-- what comes next
abbrev pub Comes : List ℕ → Feed → Coming → Type 0
Comes input f (coming.Line t) = TakesLine input f t
Comes input f (coming.TooLong g) = PassesLine input f g
Comes input f (coming.More g) = AsksMore input f g
Comes input f coming.Over = IsOver input f

-- the bytes that were read: they stand behind what was unread
abbrev pub new_bytes : Feed → Came → List ℕ → List ℕ
new_bytes f c after = between after (f.end - f.from) c.feed.end

-- they come after all that was read before; the input is over exactly where there are none, as where the read failed
pub record Adds (input : List ℕ) (f : Feed) (c : Came) (after : List ℕ) : Type 0 where
  pub fed : Fed after c.feed
  pub adds : (past : List ℕ) (handed : List Item) → Reads past handed f input → Reads (past ++ new_bytes f c after) handed c.feed after
  pub over : c.feed.is_over ≡ (c.feed.end =? (f.end - f.from))
  pub failed : c.is_failed ≡ true → c.feed.is_over ≡ true

-- ---- inside the feeder

-- the bytes of s from `from` up to `end` are the first n of t
pub record MovedDown (s : List ℕ) (from end n : ℕ) (t : List ℕ) : Type 0 where
  pub length : n ≡ end - from
  pub whole : take n t ≡ between s from end

-- how many bytes came; none where the read failed
abbrev pub count_of : Option ℕ → ℕ
count_of a = unwrap_or a 0

-- bytes came behind the first `at`, which are as they were; none where the read failed
pub record ReadBehind (s : List ℕ) (at : ℕ) (a : Option ℕ) (t : List ℕ) : Type 0 where
  pub inside : at + count_of a ≤ length s
  pub before : take at t ≡ take at s

-- the feed from `at` on
abbrev pub feed_from : Feed → ℕ → Bool → Feed
feed_from f at p = record { from = at; seen = at; end = f.end; is_passing = p; is_over = f.is_over }

-- no newline is in the buffer, and no line is passed over
pub record Searched (input : List ℕ) (f : Feed) : Type 0 where
  pub ordered : f.from ≤ f.end
  pub inside : f.end ≤ input_room
  pub held : f.end ≤ length input
  pub none : NoNewline input f.from f.end
  pub plain : f.is_passing ≡ false

-- a line that is passed over ends in the buffer, or has all of it
pub record Skips (input : List ℕ) (f g : Feed) : Type 0 where
  pub fed : Fed input g
  pub over : g.is_over ≡ f.is_over
  pub empty : g.is_passing ≡ true → g.from ≡ g.end
  pub hands : Hands input f [] g
