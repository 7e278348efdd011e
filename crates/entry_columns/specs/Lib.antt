pub mod Columns
pub mod Fits
pub mod Gaps
