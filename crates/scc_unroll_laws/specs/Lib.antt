pub mod Counters
pub mod Heads
pub mod Sizes
pub mod Spots
pub mod Writing
