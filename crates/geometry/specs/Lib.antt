pub mod F64
pub mod Rings
pub mod Measures
pub mod Domain
pub mod Squares
