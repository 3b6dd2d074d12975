pub mod Fault
pub mod Key
pub mod Lengths
