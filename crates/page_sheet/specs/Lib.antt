pub mod Slots
pub mod Sheet
pub mod Layout
pub mod Packing
pub mod Lying
pub mod Placing
pub mod Standing
