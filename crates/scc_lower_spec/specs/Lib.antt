pub mod Parts
pub mod Gives
pub mod Conversion
pub mod Operating
pub mod Selected
