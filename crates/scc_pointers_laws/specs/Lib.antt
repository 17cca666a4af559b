pub mod Asked
pub mod Counted
pub mod Followed
pub mod Ready
pub mod Stated
pub mod Turned
