pub mod Words
pub mod Steps
pub mod Writes
pub mod Bounds
pub mod Bars
