pub mod Refusals
pub mod Emitted
