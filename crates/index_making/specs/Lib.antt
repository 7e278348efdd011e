pub mod Making
pub mod Listing
pub mod Filling
