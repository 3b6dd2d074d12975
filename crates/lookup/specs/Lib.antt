pub mod Chain
pub mod Method
pub mod Constant
pub mod Question
pub mod Holding
