pub mod Turning
pub mod Handed
pub mod Masked
pub mod Listed
