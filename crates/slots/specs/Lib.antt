pub mod Table
pub mod Cursor
