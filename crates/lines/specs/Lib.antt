pub mod Cursor
pub mod Tabs
