pub mod NextLemmas
pub mod Finding
mod ManyLemmas
mod PlacesLemmas
mod WritesLemmas
