pub mod Bodies
pub mod Uses
