pub mod Counted
pub mod Walking
pub mod Knowing
pub mod Ending
