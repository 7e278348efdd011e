pub mod Session
pub mod Places
pub mod Lending
pub mod Marks
