pub mod PiecesLemmas
pub mod RunLemmas
pub mod FinishLemmas
pub mod FirstLemmas
pub mod InspectLemmas
mod ListLemmas
mod ReadingLemmas
mod ThreadsLemmas
pub mod PageTextLemmas
