pub mod Counted
pub mod Chained
pub mod Taken
pub mod Joining
pub mod Indexing
pub mod Indices
pub mod Layering
