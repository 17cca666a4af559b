pub mod Emitted
pub mod Source
pub mod Same
pub mod Identifiers
pub mod Laws
