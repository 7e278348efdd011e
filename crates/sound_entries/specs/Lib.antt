pub mod Entries
pub mod Leading
pub mod Since
pub mod Laws
