pub mod Parts
pub mod Opens
pub mod Tests
pub mod Variables
pub mod Stepping
