pub mod Statements
pub mod StaticNumbers
mod StaticNames
mod StaticElements
mod StaticTerms
mod StaticWorked
pub mod Layers
pub mod Tables
