pub mod RootBytes
pub mod OneRoot
pub mod Lent
pub mod Holds
pub mod Roots
