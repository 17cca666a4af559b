pub mod Files
pub mod Join
pub mod Walk
