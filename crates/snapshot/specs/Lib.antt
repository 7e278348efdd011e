pub mod Own
pub mod Snap
pub mod Laws
pub mod Saving
