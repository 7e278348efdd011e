pub mod LineLaws
pub mod RowLaws
pub mod ReplyLaws
pub mod OnceLaws
