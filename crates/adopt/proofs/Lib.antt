pub mod Stored
pub mod Answers
pub mod Alike
pub mod Moved
pub mod Adopted
pub mod Values
pub mod Theorems
pub mod Examples
