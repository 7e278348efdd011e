pub mod FirstLemmas
pub mod FreeSpaceLemmas
pub mod PageLemmas
