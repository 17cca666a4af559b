pub mod Adds
pub mod Single
pub mod Stands
pub mod Walking
pub mod Scenes
pub mod Came
pub mod Behind
