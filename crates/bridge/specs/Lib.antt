pub mod Span
pub mod Written
