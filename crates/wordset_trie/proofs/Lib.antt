pub mod Settling
pub mod Arenas
pub mod Lent
pub mod Putting
pub mod Each
pub mod Taking
