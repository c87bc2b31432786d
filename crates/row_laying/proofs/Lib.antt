pub mod Quads
pub mod Writing
