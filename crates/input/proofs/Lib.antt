pub mod Literals
pub mod Shape
