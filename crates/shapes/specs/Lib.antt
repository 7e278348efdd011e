pub mod Shapes
pub mod Dead
pub mod Pictures
