pub mod Bytes
pub mod Order
pub mod Runs
