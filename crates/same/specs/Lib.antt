pub mod Same
pub mod Match
