pub mod Table
pub mod Laws
pub mod Readers
pub mod ByKey
pub mod Making
pub mod Forgetting
