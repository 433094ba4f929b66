pub mod WordLaws
pub mod RankLaws
pub mod Stores
pub mod Search
pub mod Four
pub mod Taking
pub mod Loaded
pub mod Walking
