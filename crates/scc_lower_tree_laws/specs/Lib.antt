pub mod States
pub mod Sound
pub mod Becoming
pub mod Choosing
pub mod Finding
pub mod Assigning
pub mod Stating
