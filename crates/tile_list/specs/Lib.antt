pub mod Recheck
pub mod Steps
