pub mod Assigns
pub mod Along
pub mod Loaded
pub mod Splitting
