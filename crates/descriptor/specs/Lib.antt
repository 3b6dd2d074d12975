pub mod Constant
pub mod Rules
pub mod Descriptor
pub mod Tables
