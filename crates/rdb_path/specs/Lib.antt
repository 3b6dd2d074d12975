pub mod Path
pub mod Reached
pub mod Place
pub mod Claim
