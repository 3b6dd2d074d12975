pub mod Source
pub mod Wrote
