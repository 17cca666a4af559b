pub mod Reached
pub mod Lefts
