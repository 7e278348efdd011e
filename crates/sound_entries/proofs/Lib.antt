pub mod Leads
pub mod Going
pub mod Changes
pub mod Finishing
pub mod OnHeap
pub mod Tables
pub mod Since
pub mod KeysOnHeap
