pub mod Ports
pub mod Trace
pub mod Traced
pub mod Clocked
