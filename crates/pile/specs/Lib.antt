pub mod Pile
pub mod Claim
