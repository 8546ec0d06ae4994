pub mod Foresight
