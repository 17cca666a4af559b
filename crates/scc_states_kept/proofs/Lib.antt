pub mod Bools
pub mod Backward
pub mod Acts
pub mod Owning
pub mod Further
pub mod Standing
pub mod Parts
mod Walking
mod Stretches
mod Ascending
mod Noting
mod Gathering
