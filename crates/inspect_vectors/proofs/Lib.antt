pub mod LastOne
pub mod Strips
pub mod Passing
