pub mod SightingLemmas
pub mod ReasonLemmas
pub mod VerdictLemmas
pub mod Existing
