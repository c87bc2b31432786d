pub mod Candidate
pub mod Far
