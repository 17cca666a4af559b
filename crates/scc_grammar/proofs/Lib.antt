pub mod ItemLoops
pub mod Parsed
pub mod FieldLoops
pub mod TypeAgain
pub mod FileEnd
