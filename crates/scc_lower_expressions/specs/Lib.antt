pub mod Lowered
pub mod Operated
pub mod Reads
pub mod Becoming
pub mod Writing
