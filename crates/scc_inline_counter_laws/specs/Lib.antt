pub mod Even
pub mod Choosing
pub mod Uneven
