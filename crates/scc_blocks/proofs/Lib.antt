pub mod Declaring
pub mod Fewest
