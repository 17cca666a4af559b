pub mod Clocked
pub mod Fits
pub mod Own
pub mod Rows
pub mod Seen
pub mod Wholes
