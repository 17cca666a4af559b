pub mod Objects
pub mod Bounds
pub mod Records
pub mod Grown
