pub mod Terms
pub mod Codes
pub mod Programs
pub mod WorkedBit
pub mod Whole
pub mod WorkedStatic
pub mod Steps
