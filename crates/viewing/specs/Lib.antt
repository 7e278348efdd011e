pub mod Showing
pub mod Viewing
pub mod Steps
pub mod Talking
