pub mod Reach
pub mod Limits
pub mod Parts
pub mod Frames
pub mod Behind
