pub mod Closures
pub mod Finding
