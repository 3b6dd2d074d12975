pub mod Uses
pub mod Pool
pub mod Form
pub mod Readable
