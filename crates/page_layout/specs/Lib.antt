pub mod Layout
pub mod Sound
pub mod Raising
pub mod Faults
pub mod Units
