pub mod Choice
pub mod View
pub mod Lending
