pub mod Numbered
pub mod Shelving
pub mod Asking
pub mod Walking
pub mod Roots
pub mod Joins
