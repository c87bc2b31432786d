pub mod Filling
pub mod OneFront
pub mod Writing
pub mod Stepping
pub mod Fitting
