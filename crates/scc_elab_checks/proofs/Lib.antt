pub mod Parameters
pub mod Leading
pub mod Numbered
