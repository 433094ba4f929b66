pub mod Lending
pub mod Whole
