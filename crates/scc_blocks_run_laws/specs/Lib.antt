pub mod Pieces
pub mod Blocks
pub mod Leaves
pub mod Follows
