pub mod Titled
pub mod Beginning
pub mod Spreading
pub mod Judging
pub mod Naming
pub mod Declaring
