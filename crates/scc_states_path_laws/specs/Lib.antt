pub mod Moved
pub mod Within
pub mod Tracks
pub mod Aside
