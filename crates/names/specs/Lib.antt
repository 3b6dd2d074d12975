pub mod Uses
pub mod Table
pub mod Chain
