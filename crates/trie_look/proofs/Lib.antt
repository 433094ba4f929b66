pub mod Changes
pub mod Reaching
