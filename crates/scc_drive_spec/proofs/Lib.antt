pub mod OneVerdict
pub mod One
pub mod Decided
pub mod Some
pub mod Wrong
