pub mod EntryLemmas
pub mod ChainLemmas
