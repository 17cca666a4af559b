pub mod Inlined
pub mod Static
pub mod Stages
