pub mod Order
pub mod Sets
pub mod Lists
pub mod Halves
pub mod Sweeps
