pub mod PlaceLemmas
pub mod Idle
pub mod Taking
pub mod Holding
pub mod Marked
pub mod Counting
pub mod OwnFrom
