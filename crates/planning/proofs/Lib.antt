pub mod Literals
pub mod Keeping
pub mod Turning
pub mod Measuring
pub mod Planning
pub mod Apart
