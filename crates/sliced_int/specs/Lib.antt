pub mod Sliced
pub mod Ordered
