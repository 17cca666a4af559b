pub mod Needs
pub mod Owned
pub mod Filled
pub mod Rows
pub mod Slots
pub mod Walks
pub mod Noted
pub mod Gathered
