pub mod Laws
pub mod Bytewise
pub mod Orders
pub mod Filling
pub mod Taken
pub mod Scaled
