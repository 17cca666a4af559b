pub mod Picking
pub mod Tailing
pub mod Stepping
pub mod Going
pub mod Vectoring
pub mod Making
pub mod Belonging
pub mod Leadings
