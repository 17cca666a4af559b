pub mod LeftDesign
pub mod Differing
pub mod ApartCells
pub mod OwnCopies
pub mod CopiedExits
pub mod CopiedCore
pub mod WorkedCore
