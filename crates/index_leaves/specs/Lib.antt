pub mod Keeps
pub mod Lists
