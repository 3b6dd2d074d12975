pub mod Outcome
pub mod Joins
