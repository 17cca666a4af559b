pub mod Names
pub mod Even
pub mod Bare
pub mod Calm
pub mod Objects
