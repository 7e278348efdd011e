pub mod DueLemmas
pub mod Allowing
pub mod Rows
pub mod RunsLemmas
pub mod Reasoning
