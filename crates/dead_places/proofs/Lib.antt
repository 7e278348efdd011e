pub mod MarkLemmas
pub mod PlaceLemmas
