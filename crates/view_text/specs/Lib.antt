pub mod Looks
pub mod Reading
pub mod Answers
