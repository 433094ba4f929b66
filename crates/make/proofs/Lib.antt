pub mod Ranges
pub mod Filling
pub mod Runs
pub mod Image
pub mod Cases
