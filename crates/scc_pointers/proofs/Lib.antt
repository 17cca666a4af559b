pub mod Begun
pub mod Numbering
pub mod Titles
