pub mod Frames
pub mod Locals
pub mod Things
pub mod Sensed
