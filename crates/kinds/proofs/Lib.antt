pub mod Bodies
pub mod Sets
pub mod Stacks
