pub mod Ends
pub mod Here
