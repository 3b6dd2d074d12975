pub mod Line
pub mod Hex
pub mod Writing
pub mod Signed
