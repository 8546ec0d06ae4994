pub mod Classes
pub mod Tokens
pub mod Numbering
pub mod Reading
pub mod Agreeing
pub mod Answers
