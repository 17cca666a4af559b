pub mod Open
pub mod Found
