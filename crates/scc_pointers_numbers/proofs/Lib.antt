pub mod Renamed
pub mod Statements
