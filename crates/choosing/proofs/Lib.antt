pub mod Rest
pub mod Sentences
pub mod Table
pub mod Values
pub mod Good
