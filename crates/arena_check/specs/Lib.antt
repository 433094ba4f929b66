pub mod Checks
pub mod Answers
