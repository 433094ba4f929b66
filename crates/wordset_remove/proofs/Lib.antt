pub mod Removing
