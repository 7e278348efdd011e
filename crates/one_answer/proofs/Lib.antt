pub mod Tests
pub mod Answers
pub mod Others
pub mod Fronts
pub mod Handing
pub mod Ones
pub mod Opens
