pub mod Led
pub mod Located
pub mod Pointers
pub mod Read
pub mod Walked
