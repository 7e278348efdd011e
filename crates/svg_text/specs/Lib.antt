pub mod Sentences
pub mod Svg
