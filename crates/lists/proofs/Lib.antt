pub mod Laws
pub mod Sums
pub mod Blocks
pub mod Each
pub mod Counts
pub mod Same
pub mod Answers
pub mod Matching
