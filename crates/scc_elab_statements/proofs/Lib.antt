pub mod Alone
pub mod Items
