pub mod Keys
pub mod Wedging
pub mod LiningPut
pub mod LiningKeys
pub mod OpeningKeys
pub mod Opening
pub mod Filling
