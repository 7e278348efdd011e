pub mod FateLemmas
