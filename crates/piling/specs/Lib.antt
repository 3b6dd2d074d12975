pub mod Fetching
pub mod Answers
