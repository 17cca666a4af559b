pub mod Alike
pub mod Declared
