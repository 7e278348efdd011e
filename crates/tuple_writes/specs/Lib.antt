pub mod Headers
pub mod Writes
pub mod Keeps
pub mod Laws
