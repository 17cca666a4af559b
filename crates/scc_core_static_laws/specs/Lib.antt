pub mod Indices
pub mod Readable
pub mod Held
