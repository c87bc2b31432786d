pub mod Answering
pub mod Texts
