pub mod WorkedLone
