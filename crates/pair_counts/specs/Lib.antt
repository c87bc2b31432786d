pub mod Twice
pub mod Sides
pub mod Chains
pub mod Tally
