pub mod Effects
pub mod Halts
pub mod Goes
pub mod Stays
pub mod Steady
