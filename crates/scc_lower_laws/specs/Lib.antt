pub mod Sequence
pub mod Outcome
pub mod Lowers
pub mod Elements
pub mod Joins
pub mod Puts
pub mod Statements
pub mod Worked
