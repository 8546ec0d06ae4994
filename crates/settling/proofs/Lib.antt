pub mod Sides
pub mod Slots
pub mod Ends
pub mod Next
