pub mod Cells
pub mod Joined
pub mod Numbers
