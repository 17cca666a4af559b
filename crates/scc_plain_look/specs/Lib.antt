pub mod Constant
pub mod Heads
pub mod Held
pub mod Pending
pub mod Seen
pub mod Steps
pub mod Whole
