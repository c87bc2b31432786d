pub mod Values
pub mod Quads
pub mod Numbers
pub mod Squares
