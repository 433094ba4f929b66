pub mod Lookup
pub mod Room
pub mod Open
pub mod Growing
pub mod Shrinking
pub mod Exact
