pub mod Sums
pub mod Uses
pub mod Outs
pub mod Pieces
pub mod Once
