pub mod Elements
pub mod Counting
pub mod Live
pub mod Paths
pub mod Told
pub mod Measured
pub mod Bodies
pub mod Summed
