pub mod Arena
pub mod Changes
