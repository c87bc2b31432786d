pub mod Inserting
pub mod Rows
pub mod Runs
