pub mod Pour
pub mod Words
pub mod Batch
