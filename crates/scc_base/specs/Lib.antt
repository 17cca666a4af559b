pub mod Code
pub mod Memory
pub mod Names
pub mod Outside
pub mod Plan
pub mod Shelf
pub mod formers
