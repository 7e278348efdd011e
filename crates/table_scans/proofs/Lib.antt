pub mod Outcomes
pub mod ScanLemmas
pub mod TakeLemmas
pub mod PutLemmas
pub mod KeyLemmas
pub mod TicketRows
pub mod SeenLemmas
pub mod Beside
