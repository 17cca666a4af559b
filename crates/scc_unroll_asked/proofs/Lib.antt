pub mod Asked
pub mod Given
pub mod Items
pub mod Made
pub mod Wholes
