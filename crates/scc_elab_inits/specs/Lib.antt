pub mod Lefts
pub mod Sites
pub mod Makes
