pub mod Walk
pub mod Rest
