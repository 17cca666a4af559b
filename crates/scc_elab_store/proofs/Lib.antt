pub mod Same
pub mod Puts
