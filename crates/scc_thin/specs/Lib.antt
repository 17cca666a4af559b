pub mod Gives
pub mod Tokens
pub mod Reading
pub mod Reserved
pub mod Resolved
pub mod Thin
