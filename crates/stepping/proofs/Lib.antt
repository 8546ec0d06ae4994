pub mod Argument
pub mod Count
pub mod Leads
pub mod Term
pub mod Step
