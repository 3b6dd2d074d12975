pub mod Tasks
pub mod Mistakes
