pub mod Bounds
pub mod Needed
pub mod Within
pub mod Worked
