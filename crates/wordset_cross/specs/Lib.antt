pub mod Settled
pub mod Drained
pub mod Answers
