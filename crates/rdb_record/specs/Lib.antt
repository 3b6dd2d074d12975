pub mod Notes
pub mod Enum
pub mod Constant
