pub mod Marks
pub mod Earliest
pub mod Takes
pub mod Sights
pub mod Levels
pub mod LevelMarks
