pub mod Kept
pub mod Dead
pub mod RedirectLemmas
pub mod CoverLemmas
pub mod CheckLemmas
pub mod PlainLemmas
pub mod Begun
pub mod Numbered
