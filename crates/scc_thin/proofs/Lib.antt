pub mod Mapped
pub mod Halts
pub mod Items
pub mod Each
