pub mod Sample
pub mod Sampled
