pub mod Lists
pub mod Sums
