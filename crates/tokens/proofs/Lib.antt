pub mod Strings
pub mod Digits
pub mod Comments
pub mod Lexing
