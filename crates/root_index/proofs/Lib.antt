pub mod FullLemmas
pub mod SoundLemmas
pub mod SweepLemmas
pub mod WideningLemmas
