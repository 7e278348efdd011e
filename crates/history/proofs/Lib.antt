pub mod Places
pub mod HistoryLemmas
pub mod RunLemmas
pub mod FewLemmas
pub mod WrittenLemmas
