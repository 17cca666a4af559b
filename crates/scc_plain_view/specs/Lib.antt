pub mod Terms
pub mod Codes
pub mod Plains
pub mod Designs
pub mod WorkedTrees
