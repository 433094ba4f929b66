pub mod Counting
pub mod Rooting
pub mod Sowing
pub mod Reaping
pub mod Thinning
