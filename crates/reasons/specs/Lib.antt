pub mod Sightings
pub mod Reasons
pub mod Laws
