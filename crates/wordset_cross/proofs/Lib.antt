pub mod Settling
pub mod Planting
pub mod Growing
pub mod Pouring
pub mod Draining
pub mod Shrinking
