pub mod Updating
pub mod Split
pub mod Over
pub mod Sweeping
pub mod Soundly
pub mod Running
pub mod Marks
