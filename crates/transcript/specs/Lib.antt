pub mod Showing
pub mod Failures
pub mod Transcripts
pub mod Cutting
pub mod Judging
