pub mod Verbs
pub mod Empty
