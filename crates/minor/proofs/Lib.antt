pub mod Owns
pub mod Rows
pub mod Minors
