pub mod Tables
pub mod Outcomes
pub mod Lefts
pub mod Claim
