pub mod Paths
pub mod Runs
pub mod Hows
pub mod Works
pub mod Firsts
pub mod Given
pub mod Clears
