pub mod Keywords
pub mod Nibble
pub mod Moved
pub mod Nodes
pub mod FixedTexts
pub mod Grown
pub mod MovedTasks
