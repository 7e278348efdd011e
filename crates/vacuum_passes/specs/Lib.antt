pub mod View
pub mod Fields
pub mod Visits
pub mod Steps
pub mod Keeps
pub mod Bound
pub mod Working
