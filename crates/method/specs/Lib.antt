pub mod Flags
pub mod Parameter
pub mod Numbers
pub mod Method
pub mod Walk
pub mod Tables
