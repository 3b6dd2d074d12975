pub mod Areas
pub mod Givens
pub mod Lengths
pub mod Tables
pub mod Files
