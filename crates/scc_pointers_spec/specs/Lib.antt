pub mod Declared
pub mod Freed
