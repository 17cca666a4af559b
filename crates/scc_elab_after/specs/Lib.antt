pub mod Processes
pub mod Clocks
