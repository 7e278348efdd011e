pub mod Grammar
pub mod Answers
pub mod Reading
pub mod Workers
