pub mod Kept
pub mod Chains
pub mod Words
pub mod Places
pub mod Trees
pub mod Copying
pub mod Passing
pub mod Handing
