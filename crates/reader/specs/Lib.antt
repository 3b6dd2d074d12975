pub mod Values
pub mod Records
pub mod Form
pub mod Rules
pub mod Layout
pub mod Reader
