pub mod Come
pub mod Cuts
pub mod Turns
pub mod Owns
