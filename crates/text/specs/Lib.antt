pub mod Decimal
pub mod Eight
pub mod Fields
pub mod Number
pub mod Hex
pub mod Putting
pub mod Words
pub mod Writing
