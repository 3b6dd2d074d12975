pub mod Adopt
pub mod Placed
pub mod Theorems
