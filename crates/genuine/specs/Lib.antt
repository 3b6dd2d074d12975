pub mod Start
pub mod Headed
pub mod Genuine
