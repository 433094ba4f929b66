pub mod Walked
pub mod Answers
