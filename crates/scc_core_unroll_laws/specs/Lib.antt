pub mod Unrolling
pub mod Named
pub mod Kinds
