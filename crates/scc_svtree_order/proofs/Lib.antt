pub mod Grown
pub mod Mentioning
pub mod Searching
pub mod Orders
pub mod Feeding
pub mod Placing
