pub mod Chains
pub mod Owning
pub mod Rows
pub mod Trees
