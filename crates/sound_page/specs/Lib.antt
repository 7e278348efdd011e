pub mod Links
pub mod Dead
pub mod Readers
pub mod Sound
pub mod Laws
