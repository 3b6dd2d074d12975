pub mod Shows
pub mod Rules
pub mod Older
pub mod OlderWords
