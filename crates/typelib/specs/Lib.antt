pub mod Entry
pub mod Across
pub mod Directory
pub mod Own
pub mod Tables
pub mod Typelib
