pub mod Live
pub mod Sets
