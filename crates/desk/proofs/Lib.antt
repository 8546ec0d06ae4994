pub mod Pointing
pub mod Calls
