mod ExplainingLemmas
mod LookLemmas
pub mod RunLemmas
