pub mod Lists
pub mod MakingLemmas
pub mod Sessions
pub mod Worlds
pub mod Keys
