pub mod Worked
pub mod Shots
pub mod WorkedThread
