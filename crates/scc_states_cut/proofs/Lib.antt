pub mod Statements
pub mod Counting
pub mod Behind
pub mod Refusing
