pub mod Tests
pub mod Lengths
