mod SpotLemmas
pub mod Lists
mod PlaceLemmas
mod LatestLemmas
mod NotingLemmas
