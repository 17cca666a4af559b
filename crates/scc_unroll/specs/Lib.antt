pub mod Budgets
pub mod Shape
pub mod Spots
pub mod Turns
pub mod Unrolled
pub mod Used
