pub mod Replies
pub mod Books
pub mod Merge
pub mod Work
