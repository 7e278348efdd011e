pub mod ShowingLemmas
