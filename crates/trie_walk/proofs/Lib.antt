pub mod Pours
pub mod Behind
pub mod Onward
pub mod Numbers
pub mod Copies
pub mod Levels
pub mod Runs
pub mod Roots
