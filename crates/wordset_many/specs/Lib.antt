pub mod Wedge
pub mod Line
pub mod Many
