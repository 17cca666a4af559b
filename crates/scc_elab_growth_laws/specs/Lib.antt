pub mod Sites
pub mod Changes
pub mod Reached
pub mod Apart
pub mod Leaves
