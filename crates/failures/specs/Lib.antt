pub mod Room
pub mod Shown
pub mod OneLine
pub mod Reasons
pub mod Lines
