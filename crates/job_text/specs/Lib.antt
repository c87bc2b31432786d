pub mod Drawing
pub mod Reading
pub mod Readable
pub mod Answers
