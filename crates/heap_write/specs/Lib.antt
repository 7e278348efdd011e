pub mod Heap
pub mod Writes
pub mod Refusals
pub mod Growth
pub mod Steps
pub mod Cleaning
pub mod Hints
pub mod Making
