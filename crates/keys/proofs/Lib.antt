pub mod Ranges
pub mod Telling
pub mod Keys
pub mod Inverse
