pub mod Locations
pub mod Stores
