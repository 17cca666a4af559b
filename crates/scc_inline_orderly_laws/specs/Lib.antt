pub mod Test
pub mod Reached
pub mod Whole
pub mod Worked
pub mod Program
pub mod WorkedTable
