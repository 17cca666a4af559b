pub mod Standing
pub mod Putting
pub mod Running
pub mod Fields
