pub mod Bits
pub mod Choice
pub mod Limits
pub mod Number
pub mod Scan
pub mod Part
