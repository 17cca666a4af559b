pub mod Sound
pub mod SoundCode
pub mod Chosen
pub mod Relation
pub mod Standing
pub mod Whole
pub mod Own
