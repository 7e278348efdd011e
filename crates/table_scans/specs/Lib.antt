pub mod Scans
pub mod Takes
pub mod Puts
pub mod Keys
pub mod Tickets
pub mod Seen
