pub mod Job
pub mod Defaults
pub mod Limit
pub mod Shaped
