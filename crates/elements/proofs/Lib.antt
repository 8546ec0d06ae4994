pub mod Digits
pub mod Places
pub mod Levels
pub mod Values
