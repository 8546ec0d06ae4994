pub mod Turns
pub mod Fields
pub mod Scratch
pub mod Only
