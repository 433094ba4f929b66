pub mod Filling
pub mod Joining
pub mod Order
pub mod Telling
pub mod Singles
