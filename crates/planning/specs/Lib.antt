pub mod Ring
pub mod Plan
pub mod Backwards
pub mod Side
pub mod Measured
pub mod Kept
