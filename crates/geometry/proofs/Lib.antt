pub mod Literals
pub mod Choices
pub mod Steps
pub mod Loops
pub mod Squares
pub mod Flip
pub mod Sizes
