pub mod Files
pub mod Marked
pub mod Lines
