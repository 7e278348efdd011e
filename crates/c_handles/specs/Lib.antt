pub mod Heap
pub mod Owned
pub mod CallStatus
