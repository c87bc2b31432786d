pub mod Sums
pub mod Occurs
pub mod Sides
pub mod Chords
