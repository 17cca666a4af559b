pub mod Asked
pub mod Copies
pub mod Ready
pub mod Sound
pub mod Turning
pub mod Walks
pub mod WholeCounted
pub mod Wholes
