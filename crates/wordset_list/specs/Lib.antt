pub mod Judged
pub mod Performing
pub mod Twice
