pub mod Names
pub mod Index
pub mod Entries
pub mod Tables
