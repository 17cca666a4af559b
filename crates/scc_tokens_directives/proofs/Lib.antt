pub mod Expansion
pub mod Expanding
