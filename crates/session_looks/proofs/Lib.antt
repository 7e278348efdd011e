pub mod HolderLemmas
pub mod Explained
pub mod ShownLemmas
pub mod Foreseen
