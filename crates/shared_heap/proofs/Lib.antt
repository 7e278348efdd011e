pub mod Running
pub mod Merging
pub mod Scanned
pub mod Rooms
