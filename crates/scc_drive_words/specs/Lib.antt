pub mod Classes
pub mod Commands
pub mod Options
pub mod Within
