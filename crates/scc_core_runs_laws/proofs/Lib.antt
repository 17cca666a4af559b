pub mod Spared
pub mod Waiting
pub mod Turning
pub mod Done
pub mod Unbroken
