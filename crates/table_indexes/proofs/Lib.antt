pub mod Columns
pub mod IndexLemmas
pub mod Forgetting
