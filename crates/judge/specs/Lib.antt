pub mod Rulings
pub mod Handing
pub mod Runs
pub mod Reasons
pub mod Laws
