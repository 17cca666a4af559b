pub mod Kept
pub mod Simple
pub mod Single
pub mod Bodies
pub mod Inits
pub mod Program
pub mod Different
