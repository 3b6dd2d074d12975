-- `joining::union::join_files` meets its contract.
-- Assumes nothing.
use Rattle.joining.proofs.Stops.{Lent-Given, Lent-Joins}
use Rattle.joining.proofs.union.join_files.Goals as goal

pub join_keys-requires : goal.join_keys-requires
join_keys-requires c = Lent-Given _ _ _ _ c.requires

pub returns : goal.returns
returns c = Lent-Joins _ _ _ _ _ _ _ c.join_keys.ensures
