pub mod Cycle
pub mod Left
pub mod Cleared
pub mod Claim
pub mod Tables
