pub mod Shifting
pub mod Moving
pub mod Writing
pub mod Counting
pub mod Elsewhere
pub mod Ending
pub mod Openings
pub mod Closings
