pub mod Ordered
pub mod Passing
