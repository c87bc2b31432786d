pub mod Measures
pub mod Lengths
