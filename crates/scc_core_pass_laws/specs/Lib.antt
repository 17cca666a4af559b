pub mod Pointing
pub mod Resolving
pub mod Renumbering
