pub mod WorkedMaking
pub mod WorkedChosen
pub mod WorkedBits
