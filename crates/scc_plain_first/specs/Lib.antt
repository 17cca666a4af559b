pub mod Recursion
pub mod Static
pub mod Stages
pub mod Worked
