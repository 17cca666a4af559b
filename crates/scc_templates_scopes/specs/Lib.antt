pub mod Refusals
pub mod Walks
pub mod Applied
pub mod Joins
pub mod Chains
pub mod Indexed
pub mod Layered
