pub mod Rooms
pub mod Hindrances
pub mod Noted
