-- What stands at an output's path, from what the system answers, and what is then done. The numbers of errors are those of errno.
-- Assumes nothing.
use Rattle.std.specs.Prelude.{Bool, ℕ, ◌+◌, ◌/◌, ◌%◌, Err, Ok, None, Option, Some, Result, ⊤}
use Rattle.number.specs.Choice.{when◌then◌else◌, ◌=?◌}
use Rattle.standing.specs.declared.Stands.{Stands}
use Rattle.standing.specs.declared.Stands.TheVariants as stands
use Rattle.standing.specs.declared.Decision.{Decision}
use Rattle.standing.specs.declared.Decision.TheVariants as decide
use Rattle.standing.specs.declared.Barred.{Barred}
use Rattle.standing.specs.declared.Barred.TheVariants as barred

-- 2: there is no such file
unfoldable pub failed_by : ℕ → Result (Option ℕ) ℕ
failed_by e = when e =? 2 then Ok None else Err e

-- the four bits of the mode that tell the kind: 8 is an ordinary file, 10 a symbolic link
unfoldable pub is_file : ℕ → Bool
is_file mode = mode / 4096 % 16 =? 8

unfoldable pub is_link : ℕ → Bool
is_link mode = mode / 4096 % 16 =? 10

-- nobody may write it: the bits 128, 16 and 2 are the owner's, the group's and the others'
unfoldable pub is_shut : ℕ → Bool
is_shut mode = mode / 128 % 2 + mode / 16 % 2 + mode / 2 % 2 =? 0

-- a read-only file is never replaced; 13: permission denied
unfoldable pub of_file : ℕ → Result ⊤ ℕ → Result Stands ℕ
of_file mode (Err e) = Err e
of_file mode (Ok _) = when is_shut mode then Err 13 else Ok (stands.File (mode % 512))

-- what the link leads to; another link, such as that of a descriptor, is no file
unfoldable pub of_link : Result (Option ℕ) ℕ → Result ⊤ ℕ → Result Stands ℕ
of_link (Ok (Some mode)) leave = when is_file mode then of_file mode leave else Ok stands.NoFile
of_link (Ok None) leave = Ok stands.LooseLink
of_link (Err e) leave = Err e

-- the name itself
unfoldable pub standing : Result (Option ℕ) ℕ → Result (Option ℕ) ℕ → Result ⊤ ℕ → Result Stands ℕ
standing (Ok (Some mode)) led leave =
    when is_file mode then of_file mode leave else
    when is_link mode then of_link led leave else
    Ok stands.NoFile
standing (Ok None) led leave = Ok stands.Nothing
standing (Err e) led leave = Err e

-- one of two, by whether an output is forced
unfoldable pub if_forced : Bool → Result Decision Barred → Result Decision Barred → Result Decision Barred
if_forced forced one other = when forced then one else other

-- what is there is replaced only where it is asked for, and only a file or a link
unfoldable pub decision : Result Stands ℕ → Bool → Result Decision Barred
decision (Ok stands.Nothing) forced = if_forced forced (Ok decide.Instead) (Ok decide.New)
decision (Ok (stands.File bits)) forced = if_forced forced (Ok (decide.Alike bits)) (Err barred.Taken)
decision (Ok stands.LooseLink) forced = if_forced forced (Ok decide.Instead) (Err barred.Taken)
decision (Ok stands.NoFile) forced = Err barred.NoFile
decision (Err e) forced = Err (barred.Failed e)
