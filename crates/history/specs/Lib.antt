pub mod History
pub mod World
pub mod Cursors
pub mod Moves
pub mod Events
pub mod Laws
