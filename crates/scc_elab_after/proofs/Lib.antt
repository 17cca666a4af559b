pub mod Filters
pub mod Firsts
pub mod Heads
pub mod Finds
pub mod Keeping
pub mod Walking
