pub mod Spots
pub mod Stops
pub mod Texts
