pub mod Elements
pub mod Goodness
pub mod Matching
pub mod Machine
pub mod Desk
pub mod Pointer
