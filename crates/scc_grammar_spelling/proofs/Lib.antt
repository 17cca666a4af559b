pub mod Finding
pub mod Spelled
