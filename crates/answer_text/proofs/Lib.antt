pub mod LineLaws
pub mod Lengths
pub mod Pieces
