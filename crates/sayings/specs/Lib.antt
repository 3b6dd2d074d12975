pub mod Texts
pub mod Sayings
