pub mod Version
pub mod Layout
pub mod Faults
pub mod Marks
pub mod Hints
pub mod Places
pub mod IndexValue
