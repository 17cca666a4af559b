pub mod Bools
pub mod Test
pub mod Reached
pub mod Whole
pub mod Counted
pub mod Elaborated
pub mod Closed
