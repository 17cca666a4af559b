pub mod Sound
pub mod Alike
pub mod Follows
pub mod Ordering
