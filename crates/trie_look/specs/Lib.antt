pub mod Each
pub mod Levels
