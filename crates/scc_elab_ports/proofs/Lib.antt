pub mod Homes
pub mod Around
pub mod Rooting
pub mod Numbered
