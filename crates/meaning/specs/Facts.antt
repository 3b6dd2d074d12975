pub mod Equal
pub mod Facts
pub mod Union
pub mod Conditions
pub mod Valid
pub mod Link
