pub mod Keyed
pub mod Stays
