pub mod Slots
pub mod Stacks
