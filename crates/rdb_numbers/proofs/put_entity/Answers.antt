-- `rdb_numbers::put_entity` meets its contract.
-- Assumes nothing.
use Rattle.rdb_numbers.specs.Numbers.{entity_numbers}
use Rattle.rdb_numbers.proofs.NumberLaws.{then_numbers}
use Rattle.rdb_numbers.proofs.put_entity.Goals as goal

pub returns : goal.returns
returns c = then_numbers _ entity_numbers _ _ c.put_told.ensures c.entity_by.ensures
