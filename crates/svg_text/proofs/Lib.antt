pub mod ZipLemmas
pub mod Joining
