pub mod Walking
pub mod Rooms
