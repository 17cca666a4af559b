pub mod WorkedProcess
pub mod Defect
pub mod Untyped
pub mod Orderly
pub mod OrderlyDesign
