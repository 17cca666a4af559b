pub mod Resolvable
pub mod Told
pub mod Sorted
pub mod Clocked
pub mod Fitting
