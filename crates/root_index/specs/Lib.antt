pub mod Kinds
pub mod Pieces
pub mod Rows
pub mod Trees
pub mod View
pub mod Widening
