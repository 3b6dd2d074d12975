pub mod Salvage
pub mod Tables
pub mod Claim
