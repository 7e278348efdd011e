pub mod LookUpLemmas
pub mod OrderLemmas
pub mod SetLemmas
