pub mod Captions
