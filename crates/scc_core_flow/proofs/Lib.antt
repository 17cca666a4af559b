pub mod Alive
pub mod Tests
pub mod Nodes
pub mod Sets
