-- What the crates above may know of steps up the parents of a directory.
-- Assumes nothing.
pub use Rattle.rules.proofs.Chains.{climb-zero, climb_twice, parents_below}
