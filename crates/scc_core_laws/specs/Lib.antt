pub mod Stepped
pub mod Given
pub mod Bounded
