pub mod ApartLemmas
pub mod BracketLemmas
pub mod GapLemmas
pub mod LeafLemmas
pub mod ListLemmas
