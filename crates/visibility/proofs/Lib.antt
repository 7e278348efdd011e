pub mod Headers
pub mod Makers
pub mod Verdicts
pub mod Parts
pub mod HintLemmas
pub mod Dead
pub mod Statements
