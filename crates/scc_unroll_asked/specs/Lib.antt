pub mod Asked
pub mod Copied
pub mod Cores
pub mod Items
pub mod Read
pub mod Wholes
