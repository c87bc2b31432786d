pub mod Right
pub mod Searching
