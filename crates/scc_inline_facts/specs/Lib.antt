pub mod Extents
pub mod Known
pub mod Parted
pub mod Walked
pub mod Whole
