pub mod Spelling
pub mod Numbers
pub mod Chains
pub mod Writing
pub mod Entries
