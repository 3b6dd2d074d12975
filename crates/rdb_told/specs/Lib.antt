pub mod Told
pub mod Fills
