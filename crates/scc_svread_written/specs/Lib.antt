pub mod Written
pub mod Resolved
