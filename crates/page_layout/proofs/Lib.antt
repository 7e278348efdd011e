pub mod OrderLemmas
pub mod PointerLemmas
pub mod Frames
pub mod RaiseLemmas
pub mod FirstLemmas
pub mod FaultLemmas
pub mod MarkLemmas
