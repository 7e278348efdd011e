pub mod IdLemmas
pub mod GivenIds
