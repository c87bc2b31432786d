pub mod FieldLaws
pub mod Bytes
pub mod Searching
pub mod Spelling
pub mod Midst
pub mod Digits
pub mod Writings
pub mod HexLaws
