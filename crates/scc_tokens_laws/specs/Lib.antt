pub mod Faulted
pub mod Joined
pub mod Laws
