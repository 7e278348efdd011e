pub mod FreeSpaceLemmas
pub mod HintsLemmas
