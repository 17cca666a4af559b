pub mod Taken
pub mod Sound
