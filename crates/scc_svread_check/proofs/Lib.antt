pub mod HexDigits
pub mod Mapped
pub mod Scopes
