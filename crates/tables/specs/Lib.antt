pub mod Chains
pub mod Tables
pub mod Cells
pub mod Order
