pub mod Rings
pub mod WaitLemmas
