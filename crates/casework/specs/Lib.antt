pub mod Hash
pub mod Printed
pub mod Words
