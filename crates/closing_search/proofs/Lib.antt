pub mod Splitting
pub mod Gathering
