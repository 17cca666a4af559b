pub mod Reaching
pub mod Sensing
pub mod Numbered
