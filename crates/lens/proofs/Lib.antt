pub mod Only
pub mod Stores
pub mod Header
pub mod Rebuild
pub mod Words
pub mod Ranks
pub mod Found
pub mod Holding
