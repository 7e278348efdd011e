pub mod Holders
pub mod Explaining
