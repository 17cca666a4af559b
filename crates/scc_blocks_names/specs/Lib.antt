pub mod Placed
pub mod Worked
