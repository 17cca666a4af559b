pub mod Segments
pub mod IsSplit
pub mod Answers
pub mod Worked
