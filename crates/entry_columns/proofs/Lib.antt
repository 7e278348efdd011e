pub mod ColumnLemmas
pub mod GapLemmas
pub mod RemovalLemmas
