pub mod Parts
pub mod Finding
pub mod Few
pub mod Entries
