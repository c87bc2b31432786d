pub mod Turns
pub mod Allowing
pub mod Holding
pub mod Verdicts
pub mod Numbers
pub mod Answers
