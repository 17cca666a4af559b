pub mod Alone
pub mod Along
pub mod Loops
pub mod Names
pub mod Numbers
pub mod Chains
pub mod Trees
