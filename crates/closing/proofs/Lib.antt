pub mod Moving
pub mod Packing
pub mod Marked
pub mod Writing
pub mod Fitting
pub mod Quads
