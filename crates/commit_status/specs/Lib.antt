pub mod Window
pub mod Changes
pub mod Laws
pub mod Table
pub mod Entries
