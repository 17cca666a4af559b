pub mod Said
pub mod Numbers
pub mod Spots
pub mod Worths
pub mod Sites
pub mod Meant
pub mod Arguments
pub mod Picks
