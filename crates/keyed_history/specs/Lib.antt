pub mod Spots
pub mod Places
