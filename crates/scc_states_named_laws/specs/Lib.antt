pub mod Plain
pub mod Arrays
pub mod InArrays
