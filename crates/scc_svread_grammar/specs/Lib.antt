pub mod Lexical
pub mod Grammar
pub mod Levels
pub mod Claim
pub mod Answer
pub mod Leaves
pub mod Reader
