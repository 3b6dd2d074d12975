pub mod Text
pub mod Lists
pub mod Tells
