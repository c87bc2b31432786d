pub mod Sampling
pub mod Calling
