pub mod AnswerText
pub mod Fits
