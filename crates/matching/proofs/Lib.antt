pub mod Going
pub mod Lengths
pub mod Whole
