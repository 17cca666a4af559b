pub mod Grouping
pub mod Given
