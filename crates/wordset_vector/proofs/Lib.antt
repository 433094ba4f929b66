pub mod Counting
pub mod Settling
pub mod Refill
pub mod Strips
