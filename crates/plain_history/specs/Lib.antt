pub mod Covers
pub mod Plain
pub mod Answers
