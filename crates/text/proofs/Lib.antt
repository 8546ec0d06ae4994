pub mod Names
pub mod Kept
pub mod Promises
pub mod Texts
