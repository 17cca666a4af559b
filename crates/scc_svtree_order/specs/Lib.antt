pub mod VarLists
pub mod Cycles
pub mod Fed
pub mod Search
pub mod Schedule
