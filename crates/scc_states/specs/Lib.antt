pub mod Refusals
pub mod Resets
pub mod Splits
pub mod Wholes
