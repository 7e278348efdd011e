pub mod Keeps
pub mod Nodes
pub mod Rows
