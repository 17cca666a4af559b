pub mod Value
pub mod Values
pub mod Placed
pub mod Standing
