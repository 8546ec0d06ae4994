pub mod Start
pub mod Loop
pub mod Closing
