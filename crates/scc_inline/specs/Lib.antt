pub mod Refusals
pub mod Headings
pub mod Begun
pub mod Locals
pub mod Named
