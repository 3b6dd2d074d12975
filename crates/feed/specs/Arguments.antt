-- The program's arguments as one line, a zero byte between two.
-- Assumes nothing.
use Rattle.std.specs.Prelude.{◌≡◌, Bool, true, false, List, ℕ, ◌+◌, ◌-◌, ◌≤◌, take, drop, None, Option, Some}
use Rattle.number.specs.Choice.{when◌then◌else◌, ◌≤?◌, ◌≠?◌}
use Rattle.ascii.specs.Ascii.{ascii}
use Rattle.key.specs.Word.{same_word}
use Rattle.feed.specs.Lines.{input_room}
use Rattle.feed.specs.declared.arguments.First.{First}
use Rattle.feed.specs.declared.arguments.First.TheVariants as first
use Rattle.feed.specs.declared.arguments.Gathered.{Gathered}
use Rattle.feed.specs.declared.arguments.Gathered.TheVariants as gathered

-- `--help` or `-h`
unfoldable pub is_help_flag : List ℕ → Bool
is_help_flag w = when same_word w (ascii "--help") then true else same_word w (ascii "-h")

-- those or `help`
unfoldable pub is_help : List ℕ → Bool
is_help w = when same_word w (ascii "help") then true else is_help_flag w

-- what the first word asks for; the program's own name is counted among the arguments
unfoldable pub first_asks : ℕ → List ℕ → First
first_asks count w =
    when is_help w then first.Help else
    when same_word w (ascii "--version") then first.Version else
    when count ≠? 2 then first.Command else
    when same_word w (ascii "batch") then first.Batch else
    first.Command

-- the one word behind a first of n bytes, in a line that ends at e, is `--help` or `-h`
unfoldable pub asks_help : ℕ → ℕ → ℕ → List ℕ → Bool
asks_help count n e line =
    when count ≠? 3 then false else
    when e ≤? n then false else
    is_help_flag (take (e - (n + 1)) (drop (n + 1) line))

-- the line ends from `from` on, and within n bytes
abbrev pub EndsIn : ℕ → ℕ → Option ℕ → Type 0
EndsIn from n (Some e) = (from ≤ e) × (e ≤ n)
EndsIn from n None = Unit {0}

-- the line goes on from `from`; what stands before it is as it was
pub record Extends (n : ℕ) (before : List ℕ) (from : ℕ) (r : Option ℕ) (after : List ℕ) : Type 0 where
  pub ends : EndsIn from n r
  pub front : take from after ≡ take from before

-- what is gathered where the first word, of n bytes, is that of a command
abbrev pub CommandIn : ℕ → ℕ → List ℕ → Gathered → Type 0
CommandIn count n line gathered.Nothing = ⊥
CommandIn count n line gathered.TooLong = Unit {0}
CommandIn count n line gathered.Help = ⊥
CommandIn count n line gathered.Version = ⊥
CommandIn count n line gathered.Batch = ⊥
CommandIn count n line (gathered.HelpOf k) = (k ≡ n) × ((e : ℕ) × (asks_help count n e line ≡ true))
CommandIn count n line (gathered.Words e) = (e ≤ input_room) × (asks_help count n e line ≡ false)

-- what is gathered where the first word has n bytes
abbrev pub AskedIn : ℕ → ℕ → List ℕ → Gathered → Type 0
AskedIn count n line gathered.Nothing = ⊥
AskedIn count n line gathered.TooLong = Unit {0}
AskedIn count n line gathered.Help = first_asks count (take n line) ≡ first.Help
AskedIn count n line gathered.Version = first_asks count (take n line) ≡ first.Version
AskedIn count n line gathered.Batch = first_asks count (take n line) ≡ first.Batch
AskedIn count n line (gathered.HelpOf k) = (first_asks count (take n line) ≡ first.Command) × CommandIn count n line (gathered.HelpOf k)
AskedIn count n line (gathered.Words e) = (first_asks count (take n line) ≡ first.Command) × CommandIn count n line (gathered.Words e)

-- the first word stands at the front of the line, and asks for this
pub record Asks (what : First) (line : List ℕ) : Type 0 where
  pub count : ℕ
  pub size : ℕ
  pub first : first_asks count (take size line) ≡ what

-- that of a command, of k bytes, and the one word behind it asks for help
pub record AsksHelpOf (k : ℕ) (line : List ℕ) : Type 0 where
  pub within : k ≤ input_room
  pub count : ℕ
  pub first : first_asks count (take k line) ≡ first.Command
  pub end : ℕ
  pub flag : asks_help count k end line ≡ true

-- that of a command, and the line ends at e
pub record AsksCommand (e : ℕ) (line : List ℕ) : Type 0 where
  pub within : e ≤ input_room
  pub count : ℕ
  pub size : ℕ
  pub first : first_asks count (take size line) ≡ first.Command
  pub other : asks_help count size e line ≡ false

-- what is gathered; nothing tells how many arguments there are, nor which
abbrev pub GatheredIn : List ℕ → Gathered → Type 0
GatheredIn line gathered.Nothing = Unit {0}
GatheredIn line gathered.TooLong = Unit {0}
GatheredIn line gathered.Help = Asks first.Help line
GatheredIn line gathered.Version = Asks first.Version line
GatheredIn line gathered.Batch = Asks first.Batch line
GatheredIn line (gathered.HelpOf k) = AsksHelpOf k line
GatheredIn line (gathered.Words e) = AsksCommand e line
