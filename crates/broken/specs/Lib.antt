pub mod Stop
pub mod Rule
