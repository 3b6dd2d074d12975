pub mod Places
pub mod Laying
pub mod Noted
