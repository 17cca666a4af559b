pub mod Firsts
pub mod Lives
pub mod Told
pub mod Choosing
pub mod Clocks
mod Senses
