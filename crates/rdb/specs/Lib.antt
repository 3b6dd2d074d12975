pub mod Fault
pub mod Questions
