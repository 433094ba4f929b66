pub mod Laid
pub mod Marked
pub mod Parts
