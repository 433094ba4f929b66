pub mod Offsets
pub mod Scanning
pub mod Placing
pub mod Stacking
pub mod Lengths
pub mod Carried
