pub mod Down
pub mod Maps
pub mod Both
pub mod Pass
pub mod Told
