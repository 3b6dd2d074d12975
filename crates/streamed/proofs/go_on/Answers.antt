-- `streamed::go_on` meets its contract.
-- Assumes nothing.
use Rattle.number.proofs.Tools.{subst}
use Rattle.streamed.specs.declared.Stream.{Stream}
use Rattle.streamed.specs.Stream.{LeftOf}
use Rattle.streamed.proofs.go_on.Goals as goal

pub go_on_lines-requires : goal.go_on_lines-requires
go_on_lines-requires c = (c.requires.0, subst (λ (x : Stream). LeftOf c.args.in_batch c.args.file.now x c.requires.0) c.in-Lines.is c.requires.1)

pub go_on_part-requires : goal.go_on_part-requires
go_on_part-requires c = (c.requires.0, subst (λ (x : Stream). LeftOf c.args.in_batch c.args.file.now x c.requires.0) c.in-Part.is c.requires.1)

pub go_on_paths-requires : goal.go_on_paths-requires
go_on_paths-requires c = (c.requires.0, subst (λ (x : Stream). LeftOf c.args.in_batch c.args.file.now x c.requires.0) c.in-Paths.is c.requires.1)

pub returns-in-Lines : goal.returns-in-Lines
returns-in-Lines c = rw c.in-Lines.is c.go_on_lines.ensures

pub returns-in-Part : goal.returns-in-Part
returns-in-Part c = rw c.in-Part.is c.go_on_part.ensures

pub returns-in-Paths : goal.returns-in-Paths
returns-in-Paths c = rw c.in-Paths.is c.go_on_paths.ensures
