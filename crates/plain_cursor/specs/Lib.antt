pub mod Order
pub mod Hands
