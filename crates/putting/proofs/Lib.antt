pub mod Writing
pub mod Putting
pub mod Characters
pub mod Making
