pub mod Text
pub mod Rest
