pub mod Processes
pub mod Alike
pub mod Same
pub mod Turned
pub mod InTime
