pub mod Homes
pub mod Bound
pub mod Unbound
