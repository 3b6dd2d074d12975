use Rattle.std.proofs.Common.{arith}
use Rattle.kept.proofs.NameLaws.{lent_name}
use Rattle.kept.proofs.name_in.Goals as goal

pub returns : goal.returns
returns c = let i = c.requires.0.inside c.args.k (omega arith) in lent_name _ _ _ i.0 (omega arith)
