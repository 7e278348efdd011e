pub mod HeldLemmas
pub mod Turning
pub mod Agreeing
