pub mod Looks
pub mod Meets
