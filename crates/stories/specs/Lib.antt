pub mod Status
pub mod Html
pub mod Telling
pub mod Outcomes
pub mod DrawStatus
pub mod Faults
pub mod DrawOutcomes
