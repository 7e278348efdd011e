pub mod CurrentLemmas
pub mod ListLemmas
mod FillingLemmas
