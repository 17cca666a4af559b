pub mod Texts
pub mod Marks
pub mod Alone
pub mod Named
pub mod Behind
pub mod Small
