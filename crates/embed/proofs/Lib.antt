pub mod Faces
pub mod Only
