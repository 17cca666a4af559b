pub mod Passings
pub mod Objects
pub mod Tails
pub mod Goes
