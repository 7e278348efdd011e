pub mod Seeing
pub mod Visible
pub mod Reading
pub mod Laws
pub mod Hints
