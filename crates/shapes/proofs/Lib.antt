pub mod Pieces
pub mod Literals
pub mod Numbers
pub mod Closed
pub mod Turns
pub mod Lengths
