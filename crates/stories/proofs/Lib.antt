mod ExplainingLemmas
mod PictureLemmas
mod ToldLemmas
mod OutcomeLemmas
pub mod ReadLemmas
pub mod DrawOutcomeLemmas
