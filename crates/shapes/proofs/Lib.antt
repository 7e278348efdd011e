pub mod Adding
pub mod DotLemmas
pub mod SlotLemmas
pub mod IdLemmas
pub mod EntryLemmas
pub mod NoPageLemmas
pub mod JoinedLemmas
mod PictureLemmas
pub mod PageLemmas
