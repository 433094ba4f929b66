pub mod Each
pub mod Taking
