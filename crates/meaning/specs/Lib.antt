pub mod Meaning
pub mod Refs
pub mod Index
pub mod Chain
pub mod Facts
pub mod Normal
pub mod Stock
