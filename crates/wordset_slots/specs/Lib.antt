pub mod Shift
pub mod Writes
