pub mod Names
pub mod Adding
pub mod Taking
pub mod Texts
