pub mod Known
pub mod Terms
pub mod Joining
pub mod Joined
pub mod Standing
pub mod Leading
pub mod Picking
pub mod Ends
