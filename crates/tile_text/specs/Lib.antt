pub mod TileList
pub mod Reading
pub mod Readable
pub mod Plain
pub mod Fields
