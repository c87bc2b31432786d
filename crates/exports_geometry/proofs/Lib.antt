pub mod Choices
pub mod Loops
pub mod Nodes
