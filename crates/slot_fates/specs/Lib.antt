pub mod Fates
pub mod Laws
