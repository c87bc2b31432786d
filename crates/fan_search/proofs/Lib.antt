pub mod Literals
pub mod Searching
pub mod Barring
pub mod Fanning
pub mod Deciding
